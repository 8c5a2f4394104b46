use Rattle.std.proofs.Common.{◌≡◌, ◌+◌, false, drop, subst}
use Rattle.acfg_text.specs.TextFaults.{is_quoted}
use Rattle.acfg_text.specs.Terminals.{lexeme_of}
use Rattle.acfg_text.proofs.Plainness.{plain_there}
use Rattle.acfg_text.proofs.terminals.peek.Goals as goal

pub returns-clause-plain : goal.returns-clause-plain
returns-clause-plain c unquoted = (plain_there c.args.tokens.now c.args.at (lexeme_of c.token-token.result) (drop (c.args.at + 1) c.args.tokens.now) c.requires c.token-token.ensures).ascii (subst (λ x. is_quoted x ≡ false) c.class_of.ensures unquoted)
