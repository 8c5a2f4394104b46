use Rattle.std.proofs.Common.{◌≡◌, ◌<◌, length}
use Rattle.std.specs.Prelude.{IsPermutation}
use Rattle.acfg_images.proofs.twins.settle_one.Given as goal

abbrev pub invariant-loop-at : goal.invariant-loop-at
invariant-loop-at l = (l.at < length l.rows) × (length l.rows ≡ length l.fn.rows) × IsPermutation l.fn.rows l.rows

abbrev pub decreases-loop-at : goal.decreases-loop-at
decreases-loop-at l = l.at
