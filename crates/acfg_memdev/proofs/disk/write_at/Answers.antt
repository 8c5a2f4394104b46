use Rattle.std.proofs.Common.{Option, Some, ap, refl, ◌∙◌}
use Rattle.std.specs.Map.{update}
use Rattle.std.specs.Str.{bytes_eq}
use Rattle.acfg_device.specs.Disk as disk
use Rattle.acfg_memdev.proofs.Kept.{put_again, put_back, wrote_at}
use Rattle.acfg_memdev.specs.Held.{file_of}
use Rattle.acfg_memdev.specs.Slots.{names_of}
use Rattle.std.proofs.Common.{◌≤◌, ◌+◌, length, IsSomeAnd, sym, subst}
use Rattle.acfg_memdev.proofs.disk.write_at.Goals as goal

pub overwrite-requires : goal.overwrite-requires
overwrite-requires c =
    let named : disk.Names → Option disk.File = λ names. names c.args.name.now in
    subst (λ (file : Option disk.File). IsSomeAnd file (λ f. c.args.at + length c.args.bytes.now ≤ length f.bytes)) (sym (c.in-Some.ensures.was ∙ ap named c.in_ok-make_slot.ensures.names)) c.requires

pub unreachable-requires : goal.unreachable-requires
unreachable-requires c =
    let named : disk.Names → Option disk.File = λ names. names c.args.name.now in
    subst (λ (file : Option disk.File). IsSomeAnd file (λ f. c.args.at + length c.args.bytes.now ≤ length f.bytes)) (sym (c.in-None.ensures.was ∙ ap named c.in_ok-make_slot.ensures.names)) c.requires

pub returns-in-Ok-clause-ok : goal.returns-in-Ok-clause-ok
returns-in-Ok-clause-ok c =
    let named : disk.Names → Option disk.File = λ names. names c.args.name.now in
    let new : disk.File → disk.Names = λ file. update bytes_eq (names_of c.args.disk.now.slots) c.args.name.now (Some file) in
    wrote_at _ _ c.args.name.now refl c.args.at c.args.bytes.now (file_of c.in-Some.file)
    (put_again _ _ _ _ _ _ c.in_ok-make_slot.ensures.names c.in-Some.ensures.names c.put-in-Ok.ensures.names ∙ ap new c.in-Ok.ensures.ok)
    refl
    (c.in-Some.ensures.was ∙ ap named c.in_ok-make_slot.ensures.names)

pub returns-in-Err-clause-err : goal.returns-in-Err-clause-err
returns-in-Err-clause-err c =
    let named : disk.Names → Option disk.File = λ names. names c.args.name.now in
    let new : disk.File → disk.Names = λ file. update bytes_eq (names_of c.args.disk.now.slots) c.args.name.now (Some file) in
    put_back _ _ c.args.name.now refl (file_of c.in-Some.file)
    (put_again _ _ _ _ _ _ c.in_ok-make_slot.ensures.names c.in-Some.ensures.names c.put-in-Err.ensures.names ∙ ap new c.in-Err.ensures.err)
    refl
    (c.in-Some.ensures.was ∙ ap named c.in_ok-make_slot.ensures.names)
