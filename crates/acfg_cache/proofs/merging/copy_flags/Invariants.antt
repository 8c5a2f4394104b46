use Rattle.std.proofs.Common.{◌≡◌, take}
use Rattle.acfg_cache.specs.Merging.{lent}
use Rattle.acfg_cache.proofs.merging.copy_flags.Given as goal

abbrev pub invariant-loop-flag : goal.invariant-loop-flag
invariant-loop-flag l = l.copies.items ≡ lent (take l.flag-index l.flags)
