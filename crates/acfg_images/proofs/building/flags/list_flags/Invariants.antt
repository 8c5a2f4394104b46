use Rattle.std.proofs.Common.{◌≡◌, ◌≤◌, ◌+◌, ◌++◌, length, map}
use Rattle.acfg_images.specs.Building.{groups_of, total, all_flags, flag_nodes_from, flag_of, source_of, FlagsHaveBuckets}
use Rattle.acfg_images.proofs.building.flags.list_flags.Given as goal

abbrev pub invariant-loop-flags : goal.invariant-loop-flags
invariant-loop-flags l = record {
  can : (goal.iterator-loop-flags).can_next l.flags-iterator;
  finite : (goal.iterator-loop-flags).is_finite l.flags-iterator;
  nodes : map flag_of l.rows.items ++ flag_nodes_from l.id (groups_of l.flags-iterator) ≡ flag_nodes_from 0 (groups_of l.groups.entries);
  sources : map source_of l.rows.items ++ all_flags (groups_of l.flags-iterator) ≡ all_flags (groups_of l.groups.entries);
  buckets : FlagsHaveBuckets l.buckets l.rows.items;
  packages : l.id + length l.flags-iterator ≤ 50000;
  flags : total (groups_of l.flags-iterator) ≤ 50000;
}
