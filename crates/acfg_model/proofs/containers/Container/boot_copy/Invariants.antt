use Rattle.std.proofs.Common.{◌≡◌, map, take}
use Rattle.acfg_model.proofs.containers.Container.boot_copy.Given as goal
use Rattle.acfg_model.specs.Bodies.{booted_row}

abbrev pub invariant-loop-row : goal.invariant-loop-row
invariant-loop-row l = l.flags.items ≡ map booted_row (take l.row-index l.row-items)
