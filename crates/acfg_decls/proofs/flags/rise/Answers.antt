use Rattle.std.proofs.Common.{rules, sym, is_lt}
use Rattle.std.specs.Ordering.{nat_cmp}
use Rattle.std.specs.Cmp.Lexicographic.{slice_cmp, nat_list_cmp_total}
use Rattle.std.proofs.lemmas.List.Sorted.{answers_always}
use Rattle.acfg_base.proofs.Rows.{match_bool, Less_of_true, AreInOrder-from_steps}
use Rattle.acfg_decls.specs.Flags.{full_name}
use Rattle.acfg_decls.proofs.flags.rise.Goals as goal

pub returns : goal.returns
returns c =
    let cases = c.is_sorted_by.ensures.cases (λ a b. is_lt (slice_cmp nat_cmp (full_name a) (full_name b))) (answers_always _ _ _ (λ f a r g called. search rules)) in
    match_bool c.is_sorted_by.result
    (λ steps. AreInOrder-from_steps nat_list_cmp_total full_name _ (λ k d within. Less_of_true _ (steps k d within)))
    (λ stop. (stop.0, stop.1, λ d. sym (stop.2 d)))
    cases
