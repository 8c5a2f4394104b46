use Rattle.std.proofs.Common.{◌≡◌, ◌++◌, drop, filter_map}
use Rattle.acfg_decls.specs.Reading.{value_at}
use Rattle.acfg_decls.proofs.reading.add_set.Given as goal

-- what is there, and what is left to add, is all
abbrev pub invariant-loop-value : goal.invariant-loop-value
invariant-loop-value l = l.set ++ filter_map value_at (drop l.value-index l.values) ≡ l.fn.set ++ filter_map value_at l.values
