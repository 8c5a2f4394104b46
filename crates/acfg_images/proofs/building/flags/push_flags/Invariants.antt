use Rattle.std.proofs.Common.{◌≡◌, ◌++◌, map, take}
use Rattle.acfg_images.specs.Building.{row_of, flags_from, flag_of, source_of, FlagsHaveBuckets}
use Rattle.acfg_images.proofs.building.flags.push_flags.Given as goal

abbrev pub invariant-loop-flag : goal.invariant-loop-flag
invariant-loop-flag l = record {
  index : l.index ≡ l.flag-index;
  nodes : map flag_of l.rows.items ≡ map flag_of l.fn.rows.items ++ flags_from l.id 0 (map row_of (take l.flag-index l.flags));
  sources : map source_of l.rows.items ≡ map source_of l.fn.rows.items ++ map row_of (take l.flag-index l.flags);
  buckets : FlagsHaveBuckets l.buckets l.fn.rows.items → FlagsHaveBuckets l.buckets l.rows.items;
}
