use Rattle.acfg_text.proofs.Parts.{no_quote}
use Rattle.acfg_text.proofs.grammar.quoted_text.Goals as goal

pub returns-then-is_of_another_kind-clause-ahead : goal.returns-then-is_of_another_kind-clause-ahead
returns-then-is_of_another_kind-clause-ahead c = no_quote c.args.tokens.now c.args.at c.if-is_of_another_kind.ensures.0 c.if-is_of_another_kind.ensures.1
