use Rattle.acfg_text.proofs.Parts.{goes_comma, goes_closed, goes_none, goes_end}
use Rattle.acfg_text.proofs.grammar.goes_on.Goals as goal

pub returns-in_default-clause-err : goal.returns-in_default-clause-err
returns-in_default-clause-err c = goes_end c.args.tokens.now c.args.end c.args.at c.in_default.ensures.ahead

pub returns-in-Comma-clause-ok : goal.returns-in-Comma-clause-ok
returns-in-Comma-clause-ok c = goes_comma c.args.tokens.now c.args.end c.args.at c.in-Some.seen c.in-Some.ensures.ahead c.in-Comma.is

pub returns-in-CloseList-clause-ok : goal.returns-in-CloseList-clause-ok
returns-in-CloseList-clause-ok c = goes_closed c.args.tokens.now c.args.end c.args.at c.in-Some.seen c.in-Some.ensures.ahead c.in-CloseList.is

pub returns-in_default-class : goal.returns-in_default-class
returns-in_default-class c = record { ok = tt; within = tt; err = goes_none c.args.tokens.now c.args.end c.args.at c.in-Some.seen c.in-Some.ensures.ahead c.in_default-class.not-Comma c.in_default-class.not-CloseList }
