use Rattle.std.proofs.Common.{◌≡◌, map, fold, take}
use Rattle.acfg_images.specs.Build.{compiled_flag}
use Rattle.acfg_images.specs.Building.{groups_of, grown}
use Rattle.acfg_images.proofs.building.groups.add_all.Given as goal

abbrev pub invariant-loop-flag : goal.invariant-loop-flag
invariant-loop-flag l =
    groups_of l.groups.entries ≡ fold grown (groups_of l.fn.groups.entries) (map compiled_flag (take l.flag-index l.flags))
