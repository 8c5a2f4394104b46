use Rattle.std.proofs.Common.{false}
use Rattle.acfg_store.proofs.Indexed.{local_absent, local_there}
use Rattle.acfg_store.proofs.overrides.local_value.Goals as goal

pub returns-in-Ok : goal.returns-in-Ok
returns-in-Ok c = local_there c.args.rows.now c.requires c.args.index c.in-Ok.at (record { index = 0; value = false }) c.in-Ok.ensures

pub returns-in-Err : goal.returns-in-Err
returns-in-Err c = local_absent c.args.rows.now c.args.index _ c.in-Err.ensures
