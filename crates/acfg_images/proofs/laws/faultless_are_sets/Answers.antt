use Rattle.acfg_images.proofs.Law.{one_set, no_fault}
use Rattle.acfg_images.proofs.laws.faultless_are_sets.Goals as goal

pub returns : goal.returns
returns c = record { faultless = one_set; sets = no_fault }
