use Rattle.std.proofs.Common.{◌≡◌, ⊎_elim, get_or, sym, ap, subst, ◌∙◌, arith}
use Rattle.std.proofs.lemmas.Bool.{cases_lt}
use Rattle.std.proofs.lemmas.List.{get_or_default}
use Rattle.acfg_decls.specs.Flags.{IsLawful}
use Rattle.acfg_decls.proofs.flags.are_lawful.Goals as goal

pub loop-flag-preserved : goal.loop-flag-preserved
loop-flag-preserved c = λ k d below.
    ⊎_elim
    (λ earlier. c.loop-flag.invariant k d earlier)
    (λ late.
    let here : k ≡ c.loop-flag.flag-index = omega arith in
    let item = c.flag-item.is ∙ get_or_default c.args.list.now c.loop-flag.flag-index c.flag-item.result d c.loop-flag-test.true ∙ ap (λ n. get_or c.args.list.now n d) (sym here) in
    subst IsLawful item c.if-not-is_lawful.ensures)
    (cases_lt k c.loop-flag.flag-index)
