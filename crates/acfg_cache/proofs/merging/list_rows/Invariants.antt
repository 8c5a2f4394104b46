use Rattle.std.proofs.Common.{◌≡◌, ◌++◌, drop, take}
use Rattle.std.specs.Prelude.{All}
use Rattle.acfg_decls.specs.Flags.{AreFlags}
use Rattle.acfg_cache.specs.Rows.{rows_of, rows_read}
use Rattle.acfg_cache.proofs.merging.list_rows.Given as goal

abbrev pub invariant-loop-list : goal.invariant-loop-list
invariant-loop-list l = record {
  rows : rows_read l.rows.items ++ rows_of l.list (drop l.list l.lists) ≡ rows_of 0 l.lists;
  lawful : All AreFlags (take l.list l.lists);
}
