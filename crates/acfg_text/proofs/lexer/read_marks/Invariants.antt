use Rattle.std.proofs.Common.{◌≡◌, ◌-◌, ◌≤◌, length, drop, map}
use Rattle.acfg_text.specs.Marked.{marked}
use Rattle.acfg_text.specs.Scanning.{with_front, lex}
use Rattle.acfg_text.proofs.lexer.read_marks.Given as goal

abbrev pub invariant-loop-at : goal.invariant-loop-at
invariant-loop-at l = (l.at ≤ length l.source) × (lex 0 0 l.source ≡ with_front (map (marked l.source) l.found) (lex 0 l.at (drop l.at l.source)))

abbrev pub decreases-loop-at : goal.decreases-loop-at
decreases-loop-at l = length l.source - l.at
