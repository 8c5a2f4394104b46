use Rattle.std.proofs.Common.{◌≡◌, ◌<◌, ◌≤◌, ℕ, false, length, get_or}
use Rattle.acfg_hostdev.specs.Folder.{is_other}
use Rattle.acfg_hostdev.proofs.folders.end_of_part.Given as goal

abbrev pub invariant-loop-end : goal.invariant-loop-end
invariant-loop-end l = record {
  within : l.end ≤ length l.bytes;
  none : (k : ℕ) → l.end ≤ k → k < length l.bytes → is_other (get_or l.bytes k 0) ≡ false;
}

abbrev pub decreases-loop-end : goal.decreases-loop-end
decreases-loop-end l = l.end
