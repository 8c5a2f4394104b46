use Rattle.acfg_store.proofs.Rowed.{local_prefix}
use Rattle.acfg_store.proofs.locals.LocalOverrideSpelled.laws.Goals as goal

pub returns-clause-unique : goal.returns-clause-unique
returns-clause-unique c = local_prefix
