use Rattle.std.proofs.Common.{arith}
use Rattle.acfg_text.proofs.Parts.{skips_comma, skips_semicolon, skips_nothing, skips_other, skips_end}
use Rattle.acfg_text.proofs.terminals.skip_end.Goals as goal

pub returns-in-Comma-clause-leads : goal.returns-in-Comma-clause-leads
returns-in-Comma-clause-leads c = skips_comma c.args.tokens.now c.args.at c.in-Some.seen c.in-Some.ensures.ahead c.in-Comma.is

pub returns-in-Semicolon-clause-leads : goal.returns-in-Semicolon-clause-leads
returns-in-Semicolon-clause-leads c = skips_semicolon c.args.tokens.now c.args.at c.in-Some.seen c.in-Some.ensures.ahead c.in-Semicolon.is

pub returns-in_default-clause-leads : goal.returns-in_default-clause-leads
returns-in_default-clause-leads c = skips_end c.args.tokens.now c.args.at c.in_default.ensures.ahead

pub returns-in_default-class : goal.returns-in_default-class
returns-in_default-class c = record { leads = skips_nothing c.args.tokens.now c.args.at c.in-Some.seen c.in-Some.ensures.ahead c.in_default-class.not-Comma c.in_default-class.not-Semicolon; within = (omega arith, c.requires.within) }

pub returns-then-is_of_another_kind-clause-leads : goal.returns-then-is_of_another_kind-clause-leads
returns-then-is_of_another_kind-clause-leads c = skips_other c.args.tokens.now c.args.at c.if-is_of_another_kind.ensures.0 c.if-is_of_another_kind.ensures.1
