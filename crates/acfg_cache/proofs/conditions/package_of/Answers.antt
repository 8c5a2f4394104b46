use Rattle.std.proofs.Common.{◌≡◌, ◌∙◌, sym, subst}
use Rattle.std.proofs.lemmas.Slice.Eq.{bytes_eq-Decides}
use Rattle.acfg_base.specs.Names.{IsPackage}
use Rattle.acfg_cache.proofs.conditions.package_of.Goals as goal

pub returns-in_ok-clone-in-Some : goal.returns-in_ok-clone-in-Some
returns-in_ok-clone-in-Some c =
    let same : c.as_str.result.now ≡ c.args.text.now = (bytes_eq-Decides c.as_str.result.now c.args.text.now).0 (sym c.eq.ensures ∙ c.if-eq.true) in
    (subst IsPackage (sym c.as_str.ensures.text ∙ same) c.as_str.ensures.lawful, c.in_ok-clone-in-Some.ensures.cases ∙ sym c.as_str.ensures.text ∙ same)
