use Rattle.std.specs.Prelude.{IsPermutation}
use Rattle.acfg_images.proofs.twins.settle.Given as goal

abbrev pub invariant-loop-i : goal.invariant-loop-i
invariant-loop-i l = IsPermutation l.fn.rows l.rows
