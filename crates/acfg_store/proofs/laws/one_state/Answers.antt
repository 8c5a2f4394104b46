use Rattle.acfg_store.proofs.OneState.{one_state}
use Rattle.acfg_store.proofs.laws.one_state.Goals as goal

pub returns : goal.returns
returns c = one_state
