use Rattle.std.proofs.Common.{◌≡◌, take}
use Rattle.acfg_images.specs.Build.{compiled_in}
use Rattle.acfg_images.specs.Building.{groups_of, grouped}
use Rattle.acfg_images.proofs.building.groups.group.Given as goal

abbrev pub invariant-loop-cache : goal.invariant-loop-cache
invariant-loop-cache l = groups_of l.groups.entries ≡ grouped (compiled_in (take l.cache-index l.caches))
