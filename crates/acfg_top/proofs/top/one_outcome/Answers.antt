use Rattle.acfg_top.proofs.OneOutcome.{gives_unique}
use Rattle.acfg_top.proofs.top.one_outcome.Goals as goal

pub returns : goal.returns
returns c = gives_unique
