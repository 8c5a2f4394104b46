use Rattle.std.proofs.Common.{length}
use Rattle.acfg_decls.proofs.FieldsRead.{Declared}
use Rattle.acfg_decls.proofs.files.read_declarations.Given as goal

abbrev pub invariant-loop-kept : goal.invariant-loop-kept
invariant-loop-kept l = Declared l.bytes l.fields l.kept.others l.kept.flags

abbrev pub decreases-loop-kept : goal.decreases-loop-kept
decreases-loop-kept l = length l.fields.ahead
