use Rattle.std.proofs.Common.{◌∷◌, List, Option, ap, map, refl, reverse, ◌∙◌, string_bytes, ℕ}
use Rattle.acfg_device.specs.Disk as disk
use Rattle.acfg_memdev.proofs.Kept.{pushed, put_names, removed_file, removed_none}
use Rattle.acfg_memdev.specs.Held.{change_of, file_of}
use Rattle.acfg_memdev.specs.declared.disk.Change.{Change}
use Rattle.acfg_memdev.specs.declared.disk.Change.TheVariants.{Removed}
use Rattle.acfg_memdev.proofs.disk.remove.Goals as goal

pub returns-in-Some-clause-ok : goal.returns-in-Some-clause-ok
returns-in-Some-clause-ok c =
    let named : disk.Names → Option disk.File = λ names. names c.args.name.now in
    removed_file _ _ c.args.name.now refl (file_of c.in-Some.file)
    (put_names _ _ _ _ _ c.in_ok-make_slot.ensures.names c.in-Some.ensures.names)
    (pushed c.reserve.new.self.items c.push_within.new.items.items (Removed c.in_ok-gone.gone c.in-Some.file) c.push_within.ensures
    ∙ ap (λ (changes : List Change). disk.Removed (string_bytes c.in_ok-gone.gone) (file_of c.in-Some.file) ∷ reverse (map change_of changes)) c.in_ok-reserve.ensures.items
    ∙ ap (λ (gone : List ℕ). disk.Removed gone (file_of c.in-Some.file) ∷ reverse (map change_of c.args.disk.now.pending.items)) c.in_ok-gone.ensures.ok)
    (c.in-Some.ensures.was ∙ ap named c.in_ok-make_slot.ensures.names)

pub returns-in-None-clause-ok : goal.returns-in-None-clause-ok
returns-in-None-clause-ok c =
    let named : disk.Names → Option disk.File = λ names. names c.args.name.now in
    removed_none _ _ c.args.name.now refl
    (put_names _ _ _ _ _ c.in_ok-make_slot.ensures.names c.in-None.ensures.names)
    (ap (λ (changes : List Change). reverse (map change_of changes)) c.in_ok-reserve.ensures.items)
    (c.in-None.ensures.was ∙ ap named c.in_ok-make_slot.ensures.names)
