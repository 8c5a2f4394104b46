use Rattle.std.proofs.Common.{◌≤◌, length, drop}
use Rattle.acfg_images.proofs.Tables.{Starts}
use Rattle.acfg_images.proofs.agree.put_starts.Given as goal

abbrev pub invariant-loop-i : goal.invariant-loop-i
invariant-loop-i l = (l.i ≤ length l.packages) × Starts l.starts (drop l.i l.packages)

abbrev pub decreases-loop-i : goal.decreases-loop-i
decreases-loop-i l = l.i
