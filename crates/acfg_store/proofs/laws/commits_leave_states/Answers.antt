use Rattle.std.specs.Prelude.{Contains}
use Rattle.acfg_store.proofs.Changing.{commit_leaves}
use Rattle.acfg_store.proofs.laws.commits_leave_states.Goals as goal

pub returns : goal.returns
returns c = λ dir entries later spare. commit_leaves dir entries later (Contains spare)
