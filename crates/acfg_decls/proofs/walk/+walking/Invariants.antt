use Rattle.std.proofs.Common.{◌≡◌, ◌+◌, ◌-◌, ◌*◌, ◌<◌, ◌++◌, take, drop}
use Rattle.std.specs.List.{flat_map}
use Rattle.acfg_decls.specs.Walk.{first, inside, items_faults, walk}
use Rattle.acfg_decls.proofs.Walks.{lacking}
use Rattle.acfg_decls.proofs.walk.+walking.Given as goal

abbrev pub decreases-first_fault : goal.decreases-first_fault
decreases-first_fault l = 4 * l.depth

abbrev pub decreases-item_fault : goal.decreases-item_fault
decreases-item_fault l = 4 * l.depth + 3

abbrev pub decreases-inner_fault : goal.decreases-inner_fault
decreases-inner_fault l = 4 * l.depth + 2

abbrev pub decreases-value_fault : goal.decreases-value_fault
decreases-value_fault l = 4 * l.depth + 1

abbrev pub invariant-first_fault-loop-item : goal.invariant-first_fault-loop-item
invariant-first_fault-loop-item l = record {
  deep : 0 < l.depth;
  same : first (items_faults (walk (l.depth - 1)) l.message (take l.item l.items) (drop l.item l.items) ++ lacking l.message l.tree) ≡ first (walk l.depth l.message l.tree);
}

abbrev pub invariant-inner_fault-loop-value : goal.invariant-inner_fault-loop-value
invariant-inner_fault-loop-value l = first (flat_map (inside (walk l.depth) l.form) (drop l.value-index l.values)) ≡ first (flat_map (inside (walk l.depth) l.form) l.values)
