use Rattle.std.proofs.Common.{◌≡◌, take}
use Rattle.acfg_images.specs.Build.{compiled_lent}
use Rattle.acfg_images.specs.Building.{groups_of, grouped}
use Rattle.acfg_images.proofs.building.groups.group_lent.Given as goal

abbrev pub invariant-loop-flag : goal.invariant-loop-flag
invariant-loop-flag l = groups_of l.groups.entries ≡ grouped (compiled_lent (take l.flag-index l.flags))
