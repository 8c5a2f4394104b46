use Rattle.std.proofs.Common.{refl}
use Rattle.acfg_memdev.proofs.Cutting.{cut_exact, cut_may, cut_since}
use Rattle.acfg_memdev.specs.Slots.{disk_of, names_of}
use Rattle.acfg_memdev.proofs.device.MemDevice.cut.Goals as goal

pub returns-clause-exact : goal.returns-clause-exact
returns-clause-exact c =
    cut_exact c.from_entries.result c.args.self.now c.args.calls c.args.names c.args.fill (disk_of c.in_ok-slots.field-0) (names_of c.keep_names.new.slots) _ _ _
    c.from_entries.ensures c.in_ok-slots.ensures c.in_ok-keep_names.ensures c.in_ok-files.ensures refl c.new.ensures.items

pub returns-clause-allowed : goal.returns-clause-allowed
returns-clause-allowed c =
    cut_may c.from_entries.result c.args.self.now c.args.calls c.args.names c.args.fill (disk_of c.in_ok-slots.field-0) (names_of c.keep_names.new.slots) _ _ _
    c.from_entries.ensures c.in_ok-slots.ensures c.in_ok-keep_names.ensures c.in_ok-files.ensures refl c.new.ensures.items

pub returns-clause-since : goal.returns-clause-since
returns-clause-since c =
    cut_since c.from_entries.result c.args.self.now c.args.calls c.args.names c.args.fill (disk_of c.in_ok-slots.field-0) (names_of c.keep_names.new.slots) _ _ _
    c.from_entries.ensures c.in_ok-slots.ensures c.in_ok-keep_names.ensures c.in_ok-files.ensures refl c.new.ensures.items
