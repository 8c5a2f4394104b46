use Rattle.acfg_views.proofs.NameFacts.{is_container-decides, is_package-decides, is_name-decides}
use Rattle.acfg_views.proofs.laws.lawful_names.Goals as goal

pub returns : goal.returns
returns c = record { container = is_container-decides; package_name = is_package-decides; name = is_name-decides }
