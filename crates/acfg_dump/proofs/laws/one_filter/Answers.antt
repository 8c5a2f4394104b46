use Rattle.acfg_dump.proofs.OneCondition.{never_both, one_bad, one_filter}
use Rattle.acfg_dump.proofs.SomeReading.{some_filter}
use Rattle.acfg_dump.proofs.laws.one_filter.Goals as goal

pub returns-clause-one : goal.returns-clause-one
returns-clause-one c = one_filter

pub returns-clause-place : goal.returns-clause-place
returns-clause-place c = one_bad

pub returns-clause-never_both : goal.returns-clause-never_both
returns-clause-never_both c = never_both

pub returns-clause-some : goal.returns-clause-some
returns-clause-some c = some_filter
