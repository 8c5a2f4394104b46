use Rattle.std.specs.Cmp.Lexicographic.{nat_list_cmp_total}
use Rattle.acfg_store.proofs.Rowed.{recorded_prefix}
use Rattle.acfg_store.proofs.records.RecordedSpelled.laws.Goals as goal

pub returns-clause-unique : goal.returns-clause-unique
returns-clause-unique c = recorded_prefix

pub returns-clause-total : goal.returns-clause-total
returns-clause-total c = nat_list_cmp_total
