use Rattle.std.proofs.Common.{rules, sym, is_lt}
use Rattle.std.proofs.lemmas.List.Sorted.{answers_always}
use Rattle.acfg_base.proofs.Rows.{match_bool, Less_of_true, AreInOrder-from_steps}
use Rattle.acfg_store.proofs.rows.are_in_order.Goals as goal

pub returns : goal.returns
returns g c =
    let cases = c.is_sorted_by.ensures.cases (λ a b. is_lt (g.Y.Row.cmp (g.Y.Row.key a) (g.Y.Row.key b))) (answers_always _ _ _ (λ f a r g called. search rules)) in
    match_bool c.is_sorted_by.result
    (λ steps. AreInOrder-from_steps c.laws.ensures.total g.Y.Row.key _ (λ k d within. Less_of_true _ (steps k d within)))
    (λ stop. (stop.0, stop.1, λ d. sym (stop.2 d)))
    cases
