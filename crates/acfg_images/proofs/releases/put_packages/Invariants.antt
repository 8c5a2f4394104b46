use Rattle.std.proofs.Common.{◌≤◌, length, drop, map}
use Rattle.acfg_views.specs.Reading.{package_of}
use Rattle.acfg_images.specs.Listing.{HasPackages}
use Rattle.acfg_images.proofs.releases.put_packages.Given as goal

abbrev pub invariant-loop-i : goal.invariant-loop-i
invariant-loop-i l = (l.i ≤ length l.packages) × HasPackages l.table (map package_of (drop l.i l.packages))

abbrev pub decreases-loop-i : goal.decreases-loop-i
decreases-loop-i l = l.i
