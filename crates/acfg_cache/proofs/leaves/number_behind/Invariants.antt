use Rattle.std.proofs.Common.{◌≡◌, ◌≤◌, filter_map, length, take}
use Rattle.std.specs.List.{last_or}
use Rattle.acfg_cache.specs.Counted.{number_at}
use Rattle.acfg_cache.specs.Bodies.{leaves_read}
use Rattle.acfg_cache.proofs.leaves.number_behind.Given as goal

-- the last of those that are left is the last of all
abbrev pub invariant-loop-i : goal.invariant-loop-i
invariant-loop-i l = record {
  within : l.i ≤ length l.leaves;
  same :
      last_or l.fn.before (filter_map (number_at l.field) (leaves_read (take l.i l.leaves)))
      ≡ last_or l.fn.before (filter_map (number_at l.field) (leaves_read l.leaves));
}

abbrev pub decreases-loop-i : goal.decreases-loop-i
decreases-loop-i l = l.i
