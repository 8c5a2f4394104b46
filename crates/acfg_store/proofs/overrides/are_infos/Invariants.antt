use Rattle.std.proofs.Common.{All, take}
use Rattle.acfg_views.specs.Reading.{byte_in}
use Rattle.acfg_store.specs.Placed.{IsInfoAt}
use Rattle.acfg_store.proofs.overrides.are_infos.Given as goal

abbrev pub invariant-loop-flag : goal.invariant-loop-flag
invariant-loop-flag l = All (λ row. IsInfoAt l.fn.values row (byte_in l.fn.infos row.found.index)) (take l.flag-index l.fn.flags)
