use Rattle.std.proofs.Common.{All, take}
use Rattle.acfg_views.specs.Reading.{byte_in}
use Rattle.acfg_store.specs.Placed.{IsValueAt}
use Rattle.acfg_store.proofs.overrides.are_values.Given as goal

abbrev pub invariant-loop-flag : goal.invariant-loop-flag
invariant-loop-flag l = All (λ row. IsValueAt row (byte_in l.fn.values row.found.index)) (take l.flag-index l.fn.flags)
