use Rattle.std.proofs.Common.{◌≡◌, ◌≤◌, ◌+◌, ◌++◌, length, map}
use Rattle.acfg_images.specs.Building.{groups_of, total, packages_from, package_of, PackagesHaveBuckets}
use Rattle.acfg_images.proofs.building.packages.list_packages.Given as goal

abbrev pub invariant-loop-name : goal.invariant-loop-name
invariant-loop-name l = record {
  can : (goal.iterator-loop-name).can_next l.name-iterator;
  finite : (goal.iterator-loop-name).is_finite l.name-iterator;
  nodes : map package_of l.rows.items ++ packages_from l.id l.start (groups_of l.name-iterator) ≡ packages_from 0 0 (groups_of l.groups.entries);
  buckets : PackagesHaveBuckets l.buckets l.rows.items;
  packages : l.id + length l.name-iterator ≤ 50000;
  flags : l.start + total (groups_of l.name-iterator) ≤ 50000;
}
