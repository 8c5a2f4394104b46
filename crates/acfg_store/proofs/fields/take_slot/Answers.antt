use Rattle.acfg_store.proofs.Fronts.{no_slot}
use Rattle.acfg_store.proofs.fields.take_slot.Goals as goal

pub returns-in-None : goal.returns-in-None
returns-in-None c = no_slot c.args.bytes.now c.in-None.ensures
