use Rattle.acfg_cache.proofs.OneMerging.{merged_once, some_merging}
use Rattle.acfg_cache.proofs.OneReading.{clash_once, merged_apart}
use Rattle.acfg_cache.proofs.laws.one_merging.Goals as goal

pub returns : goal.returns
returns c = record { merged = merged_once; some = some_merging; apart = merged_apart; clash = clash_once }
