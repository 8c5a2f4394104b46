use Rattle.acfg_top.proofs.OneList.{jobs_once, never_both, number_once, some_list}
use Rattle.acfg_top.proofs.jobs.one_list.Goals as goal

pub returns-clause-jobs : goal.returns-clause-jobs
returns-clause-jobs c = jobs_once

pub returns-clause-number : goal.returns-clause-number
returns-clause-number c = number_once

pub returns-clause-apart : goal.returns-clause-apart
returns-clause-apart c = never_both

pub returns-clause-some : goal.returns-clause-some
returns-clause-some c = some_list
