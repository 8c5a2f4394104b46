use Rattle.std.proofs.lemmas.List.Sorted.{IsPermutation-trans}
use Rattle.acfg_images.proofs.twins.settle.Goals as goal

pub loop-i-preserved : goal.loop-i-preserved
loop-i-preserved c = IsPermutation-trans _ _ _ c.loop-i.invariant c.settle_one-moves.ensures
