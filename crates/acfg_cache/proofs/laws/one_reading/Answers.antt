use Rattle.acfg_cache.proofs.OneReading.{fails_once, reads_apart, reads_once, some_reading}
use Rattle.acfg_cache.proofs.ReadFlags.{read_flags}
use Rattle.acfg_cache.proofs.laws.one_reading.Goals as goal

pub returns : goal.returns
returns c = record { flags = read_flags; reads = reads_once; fails = fails_once; apart = reads_apart; some = some_reading }
