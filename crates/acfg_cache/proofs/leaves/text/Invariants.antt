use Rattle.std.proofs.Common.{◌≡◌, ◌≤◌, length, take}
use Rattle.acfg_cache.specs.Counted.{text}
use Rattle.acfg_cache.specs.Bodies.{leaves_read}
use Rattle.acfg_cache.proofs.leaves.text.Given as goal

-- the last of those that are left is the last of all
abbrev pub invariant-loop-i : goal.invariant-loop-i
invariant-loop-i l = record {
  within : l.i ≤ length l.leaves;
  same : text l.field (leaves_read (take l.i l.leaves)) ≡ text l.field (leaves_read l.leaves);
}

abbrev pub decreases-loop-i : goal.decreases-loop-i
decreases-loop-i l = l.i
