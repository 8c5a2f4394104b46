use Rattle.std.proofs.Common.{Option, Some, ap, refl, ◌∙◌}
use Rattle.std.specs.Map.{update}
use Rattle.std.specs.Str.{bytes_eq}
use Rattle.acfg_device.specs.Disk as disk
use Rattle.acfg_memdev.proofs.Kept.{put_again, put_names, synced_file, synced_none}
use Rattle.acfg_memdev.specs.Held.{file_of}
use Rattle.acfg_memdev.specs.Slots.{names_of}
use Rattle.acfg_memdev.proofs.disk.sync.Goals as goal

pub returns-in-Some-clause-ok : goal.returns-in-Some-clause-ok
returns-in-Some-clause-ok c =
    let named : disk.Names → Option disk.File = λ names. names c.args.name.now in
    let new : disk.File → disk.Names = λ file. update bytes_eq (names_of c.args.disk.now.slots) c.args.name.now (Some file) in
    synced_file _ _ c.args.name.now refl (file_of c.in-Some.file)
    (put_again _ _ _ _ _ _ c.in_ok-make_slot.ensures.names c.in-Some.ensures.names c.put-in-Some.ensures.names ∙ ap new c.settle.ensures)
    refl
    (c.in-Some.ensures.was ∙ ap named c.in_ok-make_slot.ensures.names)

pub returns-in-None-clause-ok : goal.returns-in-None-clause-ok
returns-in-None-clause-ok c =
    let named : disk.Names → Option disk.File = λ names. names c.args.name.now in
    synced_none _ _ c.args.name.now refl (put_names _ _ _ _ _ c.in_ok-make_slot.ensures.names c.in-None.ensures.names) refl
    (c.in-None.ensures.was ∙ ap named c.in_ok-make_slot.ensures.names)
