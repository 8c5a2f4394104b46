use Rattle.std.proofs.lemmas.List.Sorted.{IsPermutation-trans}
use Rattle.acfg_images.proofs.twins.sort_rows.Goals as goal

pub returns-clause-permutation : goal.returns-clause-permutation
returns-clause-permutation c = IsPermutation-trans _ _ _ c.settle.ensures c.sort_unstable.ensures.permutation
