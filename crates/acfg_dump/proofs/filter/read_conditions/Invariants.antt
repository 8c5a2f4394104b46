use Rattle.std.proofs.Common.{map}
use Rattle.acfg_dump.proofs.Extents.{AreRead}
use Rattle.acfg_dump.proofs.filter.read_conditions.Given as goal

abbrev pub invariant-loop-index : goal.invariant-loop-index
invariant-loop-index l = AreRead (map (λ text. text.now) l.texts) l.conditions l.before l.index
