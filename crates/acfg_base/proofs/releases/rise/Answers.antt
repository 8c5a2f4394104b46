use Rattle.std.proofs.Common.{rules, sym, is_lt}
use Rattle.std.proofs.lemmas.List.Sorted.{answers_always}
use Rattle.acfg_base.specs.Release.{key_of, key_cmp}
use Rattle.acfg_base.proofs.Rows.{match_bool, Less_of_true, AreInOrder-from_steps}
use Rattle.acfg_base.proofs.Keys.{key_total}
use Rattle.acfg_base.proofs.releases.rise.Goals as goal

pub returns : goal.returns
returns c =
    let cases = c.is_sorted_by.ensures.cases (λ a b. is_lt (key_cmp (key_of a) (key_of b))) (answers_always _ _ _ (λ f a r g called. search rules)) in
    match_bool c.is_sorted_by.result
    (λ steps. AreInOrder-from_steps key_total key_of _ (λ k d within. Less_of_true _ (steps k d within)))
    (λ stop. (stop.0, stop.1, λ d. sym (stop.2 d)))
    cases
