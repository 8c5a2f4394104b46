use Rattle.std.proofs.Common.{rules, is_lt}
use Rattle.std.proofs.lemmas.List.Sorted.{answers_always, ranks_by}
use Rattle.acfg_base.specs.Release.{key_of, key_cmp}
use Rattle.acfg_base.proofs.Keys.{key_total}
use Rattle.acfg_base.proofs.releases.sort.Goals as goal

pub returns-clause-sorted : goal.returns-clause-sorted
returns-clause-sorted c = c.sort_unstable_by.ensures.sorted (λ a b. is_lt (key_cmp (key_of a) (key_of b))) (ranks_by key_total key_of) (answers_always _ _ _ (λ f a r g called. search rules))
