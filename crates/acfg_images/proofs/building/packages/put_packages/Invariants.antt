use Rattle.std.proofs.Common.{◌≡◌, ◌++◌, map, take}
use Rattle.std.specs.List.{flat_map}
use Rattle.acfg_views.specs.Layout.{package_node}
use Rattle.acfg_images.specs.Building.{package_of}
use Rattle.acfg_images.proofs.building.packages.put_packages.Given as goal

abbrev pub invariant-loop-row : goal.invariant-loop-row
invariant-loop-row l = l.out.items ≡ l.fn.out.items ++ flat_map package_node (map package_of (take l.row-index l.rows))
