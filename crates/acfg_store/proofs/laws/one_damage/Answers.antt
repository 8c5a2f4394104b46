use Rattle.acfg_store.proofs.Damaging.{one_damaged, stand_undamaged}
use Rattle.acfg_store.proofs.laws.one_damage.Goals as goal

pub returns : goal.returns
returns c = record { one = one_damaged; none = stand_undamaged }
