use Rattle.acfg_images.proofs.Law.{told_set, told_none}
use Rattle.acfg_images.proofs.checking.check.Goals as goal

pub returns-in-Ok-clause-sets : goal.returns-in-Ok-clause-sets
returns-in-Ok-clause-sets c = told_set c.args.purpose c.args.set.now c.in-Ok.checked c.are_open.ensures c.in-Ok.ensures

pub returns-in-Err-clause-sets : goal.returns-in-Err-clause-sets
returns-in-Err-clause-sets c = told_none c.args.purpose c.args.set.now c.in-Err.fault c.in-Err.ensures
