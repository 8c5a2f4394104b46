use Rattle.std.proofs.Common.{sym, subst}
use Rattle.acfg_model.specs.Machines.{IsKept}
use Rattle.acfg_model.proofs.Kept.{IsKept-empty}
use Rattle.acfg_model.proofs.machines.Machine.new.Goals as goal

pub invariant_of-result : goal.invariant_of-result
invariant_of-result c = subst IsKept (sym c.new.ensures.items) IsKept-empty
