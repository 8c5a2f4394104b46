use Rattle.std.proofs.Common.{take}
use Rattle.acfg_cache.specs.Merging.{lent}
use Rattle.acfg_cache.specs.Rows.{IsTaken, rows_read}
use Rattle.acfg_cache.proofs.merging.take_rows.Given as goal

abbrev pub invariant-loop-row : goal.invariant-loop-row
invariant-loop-row l = IsTaken l.dedup (take l.row-index (rows_read l.rows)) (lent l.flags.items)
