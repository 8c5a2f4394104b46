use Rattle.std.proofs.Common.{◌≡◌, length, take}
use Rattle.acfg_images.specs.Build.{compiled_in, told}
use Rattle.acfg_images.proofs.building.groups.count_flags.Given as goal

abbrev pub invariant-loop-cache : goal.invariant-loop-cache
invariant-loop-cache l = l.count ≡ told (length (compiled_in (take l.cache-index l.caches)))
