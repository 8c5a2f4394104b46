use Rattle.std.proofs.Common.{◌≡◌, ◌++◌, drop, filter_map}
use Rattle.acfg_decls.specs.Reading.{flag_at}
use Rattle.acfg_decls.proofs.reading.add_flags.Given as goal

-- what is there, and what is left to add, is all
abbrev pub invariant-loop-value : goal.invariant-loop-value
invariant-loop-value l = l.flags ++ filter_map flag_at (drop l.value-index l.values) ≡ l.fn.flags ++ filter_map flag_at l.values
