use Rattle.std.proofs.Common.{◌≡◌, ◌++◌, map, take}
use Rattle.std.specs.List.{flat_map}
use Rattle.acfg_views.specs.Layout.{flag_node}
use Rattle.acfg_images.specs.Building.{flag_of}
use Rattle.acfg_images.proofs.building.flags.put_flags.Given as goal

abbrev pub invariant-loop-row : goal.invariant-loop-row
invariant-loop-row l = l.out.items ≡ l.fn.out.items ++ flat_map flag_node (map flag_of (take l.row-index l.rows))
