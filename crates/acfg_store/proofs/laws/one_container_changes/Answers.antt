use Rattle.acfg_store.proofs.Changing.{one_changes}
use Rattle.acfg_store.proofs.laws.one_container_changes.Goals as goal

pub returns : goal.returns
returns c = one_changes
