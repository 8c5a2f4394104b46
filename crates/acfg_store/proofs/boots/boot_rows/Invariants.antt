use Rattle.std.proofs.Common.{◌≡◌, map}
use Rattle.acfg_store.specs.Placed.{boot_row}
use Rattle.acfg_store.proofs.boots.boot_rows.Given as goal

abbrev pub invariant-loop-flag : goal.invariant-loop-flag
invariant-loop-flag l = l.rows.items ≡ map boot_row l.yielded
