use Rattle.std.proofs.Common.{◌≡◌, ◌++◌, drop}
use Rattle.acfg_store.specs.Marked.{marked_from}
use Rattle.acfg_store.proofs.marking.marked.Given as goal

abbrev pub invariant-loop-i : goal.invariant-loop-i
invariant-loop-i l = l.rows.items ++ marked_from l.i (drop l.i l.table) ≡ marked_from 0 l.table
