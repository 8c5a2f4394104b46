use Rattle.std.proofs.Common.{◌≡◌, ⊎_elim, sym, ap, ◌∙◌, subst, get_or, arith}
use Rattle.std.proofs.lemmas.Bool.{cases_lt}
use Rattle.std.proofs.lemmas.List.{get_or_default}
use Rattle.acfg_base.specs.Release.{key_of, IsKey}
use Rattle.acfg_base.proofs.releases.are_named.Goals as goal

pub loop-entry-preserved : goal.loop-entry-preserved
loop-entry-preserved c = λ k d below.
    let entries = c.args.entries.now in
    let i = c.loop-entry.entry-index in
    let entry = c.entry-item.result in
    let key : IsKey (key_of entry) = record { «package» = c.as_str-package.ensures.lawful; flag = c.as_str-flag.ensures.lawful } in
    ⊎_elim
    (λ before. c.loop-entry.invariant k d before)
    (λ last.
    let same : k ≡ i = omega arith in
    let is : entry ≡ get_or entries k d = c.entry-item.is ∙ get_or_default entries i entry d c.loop-entry-test.true ∙ ap (λ n. get_or entries n d) (sym same) in
    subst (λ e. IsKey (key_of e)) is key)
    (cases_lt k i)
