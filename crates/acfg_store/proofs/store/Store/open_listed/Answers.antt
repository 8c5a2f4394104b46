use Rattle.std.proofs.Common.{refl}
use Rattle.acfg_store.proofs.Stored.{reads_leave}
use Rattle.acfg_store.proofs.store.Store.open_listed.Goals as goal

pub returns-in_err-name-clause-cut : goal.returns-in_err-name-clause-cut
returns-in_err-name-clause-cut g c told = reads_leave (g.D.Panel.account c.args.device.now) (g.D.Panel.account c.args.device.now) refl
