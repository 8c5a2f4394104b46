use Rattle.acfg_store.proofs.Faultless as lemma
use Rattle.acfg_store.proofs.laws.some_damage.Goals as goal

pub returns : goal.returns
returns c files dir bytes no_state undamaged = lemma.some_damage files bytes dir no_state undamaged
