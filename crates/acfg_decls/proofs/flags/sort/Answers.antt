use Rattle.std.proofs.Common.{rules, is_lt}
use Rattle.std.specs.Ordering.{nat_cmp}
use Rattle.std.specs.Cmp.Lexicographic.{slice_cmp, nat_list_cmp_total}
use Rattle.std.proofs.lemmas.List.Sorted.{answers_always, ranks_by}
use Rattle.acfg_decls.specs.Flags.{full_name}
use Rattle.acfg_decls.proofs.flags.sort.Goals as goal

pub returns-clause-sorted : goal.returns-clause-sorted
returns-clause-sorted c = c.sort_unstable_by.ensures.sorted (λ a b. is_lt (slice_cmp nat_cmp (full_name a) (full_name b))) (ranks_by nat_list_cmp_total full_name) (answers_always _ _ _ (λ f a r g called. search rules))
