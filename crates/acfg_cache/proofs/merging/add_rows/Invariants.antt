use Rattle.std.proofs.Common.{◌≡◌, ◌++◌, drop, map}
use Rattle.acfg_cache.specs.Rows.{rows_read}
use Rattle.acfg_cache.proofs.merging.add_rows.Given as goal

abbrev pub invariant-loop-flag : goal.invariant-loop-flag
invariant-loop-flag l = rows_read l.rows.items ++ map (λ flag. (l.list, flag)) (drop l.flag-index l.flags) ≡ rows_read l.fn.rows.items ++ map (λ flag. (l.list, flag)) l.flags
