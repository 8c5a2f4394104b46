use Rattle.acfg_cache.proofs.Again.{reads_again}
use Rattle.acfg_cache.proofs.laws.written_is_read.Goals as goal

pub returns : goal.returns
returns c = reads_again
