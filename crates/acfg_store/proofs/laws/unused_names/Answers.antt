use Rattle.acfg_store.proofs.Unused.{new_not_used, not_used}
use Rattle.acfg_store.proofs.laws.unused_names.Goals as goal

pub returns : goal.returns
returns c = record { spare = not_used; absent = new_not_used }
