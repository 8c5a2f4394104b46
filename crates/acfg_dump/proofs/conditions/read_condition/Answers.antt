use Rattle.acfg_dump.proofs.OneCondition.{none_without}
use Rattle.acfg_dump.proofs.conditions.read_condition.Goals as goal

pub returns-in_default : goal.returns-in_default
returns-in_default c = none_without c.args.text.now c.in_default.ensures
