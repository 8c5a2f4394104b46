use Rattle.std.proofs.Common.{◌+◌, ◌-◌}
use Rattle.acfg_lookup.specs.Lookup.{package_bucket_size}
use Rattle.acfg_lookup.proofs.Walks.{PackageWalk}
use Rattle.acfg_lookup.proofs.packages.find_package.Given as goal

abbrev pub invariant-loop-next : goal.invariant-loop-next
invariant-loop-next g l = PackageWalk l.set l.package l.fn.steps l.next l.steps

abbrev pub decreases-loop-next : goal.decreases-loop-next
decreases-loop-next g l = l.fn.steps + package_bucket_size l.set l.package - l.steps
