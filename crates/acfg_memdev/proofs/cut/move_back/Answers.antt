use Rattle.std.proofs.Common.{◌∙◌}
use Rattle.acfg_memdev.proofs.Undoing.{back}
use Rattle.acfg_memdev.proofs.cut.move_back.Goals as goal

pub returns : goal.returns
returns c =
    back _ _ _ _ _ c.args.from.now c.args.to.now _ _ (c.in_ok-make_slot-2.ensures.names ∙ c.in_ok-make_slot.ensures.names)
    c.put-moved.ensures.names c.put-moved.ensures.was c.put.ensures.names c.put-2.ensures.names
