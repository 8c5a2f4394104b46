use Rattle.std.proofs.Common.{map}
use Rattle.acfg_dump.proofs.Extents.{AreReadEach}
use Rattle.acfg_dump.proofs.filter.read_alternatives.Given as goal

abbrev pub invariant-loop-index : goal.invariant-loop-index
invariant-loop-index l = AreReadEach (map (λ text. text.now) l.texts) l.alternatives l.before l.index
