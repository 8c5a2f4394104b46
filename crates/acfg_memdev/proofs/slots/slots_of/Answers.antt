use Rattle.std.proofs.Common.{◌∙◌}
use Rattle.acfg_memdev.proofs.Filling.{turn}
use Rattle.acfg_memdev.specs.Slots.{names_of}
use Rattle.acfg_memdev.proofs.slots.slots_of.Goals as goal

pub loop-name-preserved : goal.loop-name-preserved
loop-name-preserved c name =
    c.loop-name.invariant name
    ∙ turn c.args.files.now c.loop-name.name-index c.loop-name-item.result (names_of c.loop-name.slots) (names_of c.fill_slot.new.slots) c.as_str.result.now c.as_slice.result.now
    c.loop-name-test.true c.loop-name-item.is c.as_str.ensures.value c.as_slice.ensures.value c.in_ok-fill_slot.ensures.there c.in_ok-fill_slot.ensures.absent name
