use Rattle.acfg_wire.proofs.Outcomes.{outcome_behind}
use Rattle.acfg_wire.proofs.laws.fields_join.Goals as goal

pub returns : goal.returns
returns c = outcome_behind
