use Rattle.acfg_store.proofs.Apart.{path_part, path_container, source_apart}
use Rattle.acfg_store.proofs.laws.names_are_apart.Goals as goal

pub returns : goal.returns
returns c = record { parts = path_part; containers = path_container; sources = source_apart }
