use Rattle.std.proofs.Common.{rules, is_lt}
use Rattle.std.proofs.lemmas.List.Sorted.{answers_always, ranks_by}
use Rattle.acfg_cache.specs.Rows.{key_order, row_key, row_read}
use Rattle.acfg_cache.proofs.RowOrder.{key_total}
use Rattle.acfg_cache.proofs.merging.sort_rows.Goals as goal

pub returns-clause-sorted : goal.returns-clause-sorted
returns-clause-sorted c = c.in_ok-sort_by.ensures.sorted (λ a b. is_lt (key_order (row_key (row_read a)) (row_key (row_read b)))) (ranks_by key_total (λ row. row_key (row_read row))) (answers_always _ _ _ (λ f a r g called. search rules))
