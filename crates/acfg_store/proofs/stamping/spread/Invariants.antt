use Rattle.acfg_store.specs.Stamped.{ArePut}
use Rattle.acfg_store.proofs.stamping.spread.Given as goal

abbrev pub invariant-loop-i : goal.invariant-loop-i
invariant-loop-i l = ArePut l.indexes l.bytes l.i l.table
