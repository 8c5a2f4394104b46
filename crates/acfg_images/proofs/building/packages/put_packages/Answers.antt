use Rattle.std.proofs.Common.{arith, get_or}
use Rattle.acfg_views.specs.Layout.{package_node}
use Rattle.acfg_images.specs.Building.{package_of}
use Rattle.acfg_images.proofs.Sizes.{one_within, package_size}
use Rattle.acfg_images.proofs.Emptied.{no_package}
use Rattle.acfg_images.proofs.building.packages.put_packages.Goals as goal

pub put_package-requires : goal.put_package-requires
put_package-requires c =
    let row = get_or c.args.rows.now c.loop-row.row-index no_package in
    omega (arith, one_within package_node package_of c.args.rows.now c.loop-row.row-index no_package c.loop-row-test.true, package_size (package_of row), c.requires)
