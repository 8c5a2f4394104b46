use Rattle.acfg_text.proofs.Onward.{stray}
use Rattle.acfg_text.proofs.reader.require_end.Goals as goal

pub returns-in-Some-clause-err : goal.returns-in-Some-clause-err
returns-in-Some-clause-err c end = stray c.args.tokens.now end c.args.at c.in-Some.seen c.requires.fields c.in-Some.ensures.ahead
