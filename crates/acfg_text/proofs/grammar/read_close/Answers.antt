use Rattle.std.proofs.Common.{◌≡◌, rules}
use Rattle.acfg_text.specs.declared.classes.Class.TheVariants.{Close}
use Rattle.acfg_text.proofs.Parts.{closes_by, close_none, close_end}
use Rattle.acfg_text.proofs.grammar.read_close.Goals as goal

pub returns-in_default-clause-err : goal.returns-in_default-clause-err
returns-in_default-clause-err c = close_end c.args.tokens.now c.args.end c.args.at c.args.bracket c.in_default.ensures.ahead

pub returns-then-eq-clause-ok : goal.returns-then-eq-clause-ok
returns-then-eq-clause-ok c = let is : c.in-Some.seen.class ≡ Close c.args.bracket = search rules in closes_by c.args.tokens.now c.args.end c.args.at c.in-Some.seen c.args.bracket c.in-Some.ensures.ahead is

pub returns-else-eq-clause-err : goal.returns-else-eq-clause-err
returns-else-eq-clause-err c = let other : c.in-Some.seen.class ≡ Close c.args.bracket → ⊥ = search rules in close_none c.args.tokens.now c.args.end c.args.at c.in-Some.seen c.args.bracket c.in-Some.ensures.ahead c.requires.fields other
