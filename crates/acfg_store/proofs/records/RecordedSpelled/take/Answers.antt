use Rattle.acfg_store.proofs.Rowed.{no_name, recorded_taken}
use Rattle.acfg_store.proofs.records.RecordedSpelled.take.Goals as goal

pub returns-in-None : goal.returns-in-None
returns-in-None c = no_name c.args.bytes.now (rw c.in-None.is at c.in_ok-take_name.ensures)

pub returns-in-Some : goal.returns-in-Some
returns-in-Some c =
    let n = rw c.in-Some.is at c.in_ok-take_name.ensures in
    recorded_taken c.args.bytes.now c.in-Some.name c.in-Some.rest.now n.0 n.1 _ c.take_recorded.ensures
