use Rattle.acfg_store.proofs.Lying.{lies_frame, stands_frame}
use Rattle.acfg_store.proofs.laws.other_files_are_free.Goals as goal

pub returns : goal.returns
returns c = record { lie = lies_frame; stand = stands_frame }
