use Rattle.std.proofs.Common.{length}
use Rattle.acfg_text.proofs.Onward.{LeadsTo}
use Rattle.acfg_text.proofs.reader.FieldReader.pass.Given as goal

abbrev pub invariant-loop-field : goal.invariant-loop-field
invariant-loop-field l = LeadsTo l.fn.self l.self

abbrev pub decreases-loop-field : goal.decreases-loop-field
decreases-loop-field l = length l.self.ahead
