use Rattle.std.proofs.Common.{rules}
use Rattle.std.proofs.lemmas.List.Sorted.{answers_always}
use Rattle.acfg_images.proofs.building.packages.sort_by_bucket.Goals as goal

pub returns-clause-sorted : goal.returns-clause-sorted
returns-clause-sorted c = c.in_ok-sort_by_key.ensures.sorted (λ row. row.bucket) (answers_always _ _ _ (λ f a r g called. search rules))

pub returns-clause-stable : goal.returns-clause-stable
returns-clause-stable c = c.in_ok-sort_by_key.ensures.stable (λ row. row.bucket) (answers_always _ _ _ (λ f a r g called. search rules))
