use Rattle.std.proofs.Common.{◌≡◌, map, take}
use Rattle.acfg_model.proofs.containers.release.Given as goal
use Rattle.acfg_model.specs.Bodies.{entry_in}

abbrev pub invariant-loop-row : goal.invariant-loop-row
invariant-loop-row l = l.entries.items ≡ map entry_in (take l.row-index l.rows)
