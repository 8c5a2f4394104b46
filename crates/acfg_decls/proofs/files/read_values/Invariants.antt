use Rattle.std.proofs.Common.{length}
use Rattle.acfg_decls.proofs.FieldsRead.{ValuesRead}
use Rattle.acfg_decls.proofs.files.read_values.Given as goal

abbrev pub invariant-loop-values : goal.invariant-loop-values
invariant-loop-values l = ValuesRead l.bytes l.fields l.values

abbrev pub decreases-loop-values : goal.decreases-loop-values
decreases-loop-values l = length l.fields.ahead
