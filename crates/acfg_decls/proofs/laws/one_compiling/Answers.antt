use Rattle.acfg_decls.proofs.Exists.{compiles, compiles_or_fails}
use Rattle.acfg_decls.proofs.Few.{compiled_few}
use Rattle.acfg_decls.proofs.OneAnswer.{compiles_apart, compiles_unique, fails_unique}
use Rattle.acfg_decls.proofs.laws.one_compiling.Goals as goal

pub returns-clause-compiles : goal.returns-clause-compiles
returns-clause-compiles c = compiles_unique

pub returns-clause-fails : goal.returns-clause-fails
returns-clause-fails c = fails_unique

pub returns-clause-apart : goal.returns-clause-apart
returns-clause-apart c = compiles_apart

pub returns-clause-some : goal.returns-clause-some
returns-clause-some c = compiles

pub returns-clause-either : goal.returns-clause-either
returns-clause-either c = compiles_or_fails

pub returns-clause-few : goal.returns-clause-few
returns-clause-few c = compiled_few
