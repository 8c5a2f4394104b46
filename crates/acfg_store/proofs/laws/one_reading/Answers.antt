use Rattle.acfg_store.proofs.Reading.{one_records, one_locals}
use Rattle.acfg_store.proofs.laws.one_reading.Goals as goal

pub returns : goal.returns
returns c = record { records = one_records; locals = one_locals }
