use Rattle.acfg_text.proofs.Wholes.{one_read, one_refused, refused_apart, some_outcome}
use Rattle.acfg_text.proofs.trees.one_tree.Goals as goal

pub returns-clause-read : goal.returns-clause-read
returns-clause-read c = one_read

pub returns-clause-refused : goal.returns-clause-refused
returns-clause-refused c = one_refused

pub returns-clause-apart : goal.returns-clause-apart
returns-clause-apart c = refused_apart

pub returns-clause-some : goal.returns-clause-some
returns-clause-some c = some_outcome
