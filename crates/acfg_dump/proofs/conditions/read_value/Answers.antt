use Rattle.acfg_dump.proofs.OneCondition.{never_keyed}
use Rattle.acfg_dump.proofs.conditions.read_value.Goals as goal

pub returns-in_default : goal.returns-in_default
returns-in_default c = never_keyed c.args.key.now c.args.value.now c.requires.whole c.in_default.ensures c.requires.apart
