use Rattle.std.proofs.Common.{arith}
use Rattle.acfg_views.specs.Layout.{package_node}
use Rattle.acfg_images.specs.Building.{package_of}
use Rattle.acfg_images.proofs.Sizes.{rows_within, package_some}
use Rattle.acfg_images.proofs.building.files.package_map_file.Goals as goal

pub overflow_cast-rows : goal.overflow_cast-rows
overflow_cast-rows c = omega (arith, rows_within package_node package_of package_some c.args.rows.now, c.requires, c.ranges.size)
