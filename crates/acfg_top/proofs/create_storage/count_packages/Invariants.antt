use Rattle.std.proofs.Common.{◌≡◌, ◌+◌, true, drop, filter, length, map, not}
use Rattle.std.specs.Prelude.{IfSome}
use Rattle.std.specs.BTreeSet.{btree_set_len}
use Rattle.acfg_cache.specs.Merging.{lent}
use Rattle.acfg_images.specs.Build.{compiled_flag}
use Rattle.acfg_images.specs.Image.{package_names}
use Rattle.acfg_top.proofs.Packages.{has}
use Rattle.acfg_top.proofs.create_storage.count_packages.Given as goal

abbrev pub invariant-loop-flag : goal.invariant-loop-flag
invariant-loop-flag l = record {
  counted :
      btree_set_len l.names + length (filter (λ name. not (has l.names name)) (package_names (map compiled_flag (lent (drop l.flag-index l.flags)))))
      ≡ length (package_names (map compiled_flag (lent l.flags)));
  seen : IfSome l.last (λ last. has l.names last.now ≡ true);
}
