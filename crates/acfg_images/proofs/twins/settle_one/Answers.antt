use Rattle.std.proofs.Common.{◌∙◌, arith}
use Rattle.std.proofs.lemmas.List.Sorted.{IsPermutation-trans}
use Rattle.acfg_images.proofs.twins.settle_one.Goals as goal

pub loop-at-preserved : goal.loop-at-preserved
loop-at-preserved c =
    let before = c.loop-at.invariant in (
      omega (arith, c.swap.ensures.len, before.0),
      c.swap.ensures.len ∙ before.1,
      IsPermutation-trans _ _ _ before.2 c.swap.ensures.permutation,
    )
