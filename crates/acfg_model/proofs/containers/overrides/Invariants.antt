use Rattle.std.proofs.Common.{◌≡◌, take}
use Rattle.acfg_model.proofs.Shown.{listed}
use Rattle.acfg_model.proofs.containers.overrides.Given as goal

abbrev pub invariant-loop-row : goal.invariant-loop-row
invariant-loop-row l = l.list.items ≡ listed l.who (take l.row-index l.rows)
