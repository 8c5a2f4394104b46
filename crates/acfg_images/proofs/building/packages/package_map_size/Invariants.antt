use Rattle.std.proofs.Common.{◌≡◌, map, take}
use Rattle.acfg_views.specs.Layout.{package_node}
use Rattle.acfg_images.specs.Build.{told}
use Rattle.acfg_images.specs.Building.{package_of, map_size_of}
use Rattle.acfg_images.proofs.building.packages.package_map_size.Given as goal

abbrev pub invariant-loop-row : goal.invariant-loop-row
invariant-loop-row l = l.size ≡ told (map_size_of package_node l.container l.buckets (map package_of (take l.row-index l.rows)))
