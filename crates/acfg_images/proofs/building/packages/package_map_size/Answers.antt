use Rattle.std.proofs.Common.{arith, add-one, get_or}
use Rattle.acfg_views.specs.Layout.{package_node}
use Rattle.acfg_images.specs.Building.{package_of}
use Rattle.acfg_images.proofs.Sizes.{size_more, package_size}
use Rattle.acfg_images.proofs.Emptied.{no_package}
use Rattle.acfg_images.proofs.building.packages.package_map_size.Goals as goal

pub loop-row-preserved : goal.loop-row-preserved
loop-row-preserved c =
    let row = get_or c.args.rows.now c.loop-row.row-index no_package in
    let more = size_more package_node package_of c.args.rows.now c.loop-row.row-index no_package c.loop-row-test.true in
    let size = package_size (package_of row) in
    rw add-one (omega (arith, more, size, c.loop-row.invariant, c.saturating_add-size.ensures))
