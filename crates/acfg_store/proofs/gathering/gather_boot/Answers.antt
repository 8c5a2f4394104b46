use Rattle.std.proofs.Common.{◌≡◌, ◌∙◌, ℕ, List, Some, subst, sym}
use Rattle.acfg_store.specs.declared.names.Part.TheVariants.{Pointer}
use Rattle.acfg_store.specs.Names.{path}
use Rattle.acfg_store.proofs.gathering.gather_boot.Goals as goal

pub returns-in-None-read_pointer-clause-read : goal.returns-in-None-read_pointer-clause-read
returns-in-None-read_pointer-clause-read g c told = record {
  bytes = c.in-Some.bytes.items;
  there =
      let found = rw c.in-Some.is at (c.in_ok-read_part.ensures.found told) in
      subst (λ (name : List ℕ). g.P.Panel.files c.args.panel.now (path c.args.dir.now name Pointer) ≡ Some c.in-Some.bytes.items) c.as_str.ensures.text (sym found);
  none = λ slot is. c.in-None-read_pointer.ensures slot (c.deref.ensures.value ∙ is);
}
