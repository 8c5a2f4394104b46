use Rattle.acfg_store.proofs.Nothing as nothing
use Rattle.acfg_store.proofs.laws.nothing_stands.Goals as goal

pub returns : goal.returns
returns c = nothing.nothing_stands
