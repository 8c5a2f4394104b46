use Rattle.acfg_wire.proofs.Laying.{outcome_is_laid, places_are_laid}
use Rattle.acfg_wire.proofs.laws.laid_out.Goals as goal

pub returns : goal.returns
returns c = record { outcome = outcome_is_laid; places = places_are_laid }
