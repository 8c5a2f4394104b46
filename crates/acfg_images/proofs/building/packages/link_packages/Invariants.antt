use Rattle.std.proofs.Common.{◌≤◌, ◌-◌, length}
use Rattle.acfg_views.specs.Layout.{package_node}
use Rattle.acfg_images.specs.Links.{package_key}
use Rattle.acfg_images.specs.Building.{package_of, package_with}
use Rattle.acfg_images.proofs.Linking.{Linking}
use Rattle.acfg_images.proofs.Sizes.{size_of}
use Rattle.acfg_images.proofs.building.packages.link_packages.Given as goal

abbrev pub invariant-loop-i : goal.invariant-loop-i
invariant-loop-i l =
    (l.i ≤ length l.rows)
    × Linking package_node package_key package_with package_of (λ row. row.bucket) (length l.fn.firsts) (l.end - size_of package_node package_of l.fn.rows) l.fn.rows l.rows l.i l.at l.firsts

abbrev pub decreases-loop-i : goal.decreases-loop-i
decreases-loop-i l = l.i
