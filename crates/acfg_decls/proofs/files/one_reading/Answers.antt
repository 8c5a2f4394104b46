use Rattle.acfg_decls.proofs.Unique.{declares_unique, passes_apart, read_or_refused, refuses_unique, sets_unique}
use Rattle.acfg_decls.proofs.files.one_reading.Goals as goal

pub returns-clause-declares : goal.returns-clause-declares
returns-clause-declares c = declares_unique

pub returns-clause-sets : goal.returns-clause-sets
returns-clause-sets c = sets_unique

pub returns-clause-refuses : goal.returns-clause-refuses
returns-clause-refuses c = refuses_unique

pub returns-clause-apart : goal.returns-clause-apart
returns-clause-apart c = passes_apart

pub returns-clause-some : goal.returns-clause-some
returns-clause-some c = read_or_refused
