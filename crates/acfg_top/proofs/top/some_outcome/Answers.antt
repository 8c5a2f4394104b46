use Rattle.acfg_top.proofs.SomeOutcome.{some_outcome}
use Rattle.acfg_top.proofs.top.some_outcome.Goals as goal

pub returns : goal.returns
returns c = λ words files hold none. some_outcome words files hold (λ found. none found.0 found.1)
