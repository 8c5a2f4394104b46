use Rattle.std.proofs.Common.{◌≡◌, ◌++◌, map, drop}
use Rattle.acfg_text.specs.Terminals.{lexeme_of}
use Rattle.acfg_text.proofs.marks.Tokens.list.Given as goal

abbrev pub invariant-loop-at : goal.invariant-loop-at
invariant-loop-at l = map lexeme_of l.list.items ++ drop l.at l.self ≡ l.self
