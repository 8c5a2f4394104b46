use Rattle.std.proofs.Common.{◌∷◌, List, Option, Some, ap, map, refl, reverse, ◌∙◌, string_bytes, ℕ}
use Rattle.std.specs.Map.{update}
use Rattle.std.specs.Str.{bytes_eq}
use Rattle.acfg_device.specs.Calls.{new_file}
use Rattle.acfg_device.specs.Disk as disk
use Rattle.acfg_memdev.proofs.Kept.{pushed, put_names, wrote_new, wrote_over}
use Rattle.acfg_memdev.specs.Held.{change_of, file_of}
use Rattle.acfg_memdev.specs.Slots.{names_of}
use Rattle.acfg_memdev.specs.declared.disk.Change.{Change}
use Rattle.acfg_memdev.specs.declared.disk.Change.TheVariants.{Made}
use Rattle.acfg_memdev.proofs.disk.write.Goals as goal

pub returns-in-Some-clause-ok : goal.returns-in-Some-clause-ok
returns-in-Some-clause-ok c =
    let named : disk.Names → Option disk.File = λ names. names c.args.name.now in
    let new : List ℕ → disk.Names = λ bytes. update bytes_eq (names_of c.args.disk.now.slots) c.args.name.now (Some (new_file bytes)) in
    wrote_over _ _ c.args.name.now refl c.args.bytes.now (file_of c.in-Some.field-0)
    (put_names _ _ _ _ _ c.in_ok-make_slot.ensures.names c.in-Some.ensures.names ∙ ap new c.in_ok-from_slice.ensures.items)
    (ap (λ (changes : List Change). reverse (map change_of changes)) c.in_ok-reserve.ensures.items)
    (c.in-Some.ensures.was ∙ ap named c.in_ok-make_slot.ensures.names)

pub returns-in-None-clause-ok : goal.returns-in-None-clause-ok
returns-in-None-clause-ok c =
    let named : disk.Names → Option disk.File = λ names. names c.args.name.now in
    let new : List ℕ → disk.Names = λ bytes. update bytes_eq (names_of c.args.disk.now.slots) c.args.name.now (Some (new_file bytes)) in
    wrote_new _ _ c.args.name.now refl c.args.bytes.now
    (put_names _ _ _ _ _ c.in_ok-make_slot.ensures.names c.in-None.ensures.names ∙ ap new c.in_ok-from_slice.ensures.items)
    (pushed c.reserve.new.self.items c.push_within.new.items.items (Made c.in_ok-made.made) c.push_within.ensures
    ∙ ap (λ (changes : List Change). disk.Made (string_bytes c.in_ok-made.made) ∷ reverse (map change_of changes)) c.in_ok-reserve.ensures.items
    ∙ ap (λ (made : List ℕ). disk.Made made ∷ reverse (map change_of c.args.disk.now.pending.items)) c.in_ok-made.ensures.ok)
    (c.in-None.ensures.was ∙ ap named c.in_ok-make_slot.ensures.names)
