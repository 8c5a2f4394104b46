use Rattle.acfg_views.proofs.FileFacts.{package_exact, flag_exact}
use Rattle.acfg_views.proofs.laws.nodes_are_spelled.Goals as goal

pub returns : goal.returns
returns c = record {
  package_found = λ bytes node rest fits e. let f = package_exact.found bytes node rest fits e in (f.0.parts, f.1);
  package_again = package_exact.again;
  flag_found = λ bytes node rest fits e. let f = flag_exact.found bytes node rest fits e in (f.0.parts, f.1);
  flag_again = flag_exact.again;
}
