use Rattle.acfg_text.proofs.Lexing.{one_lexes}
use Rattle.acfg_text.proofs.Slices.{lexes_slices, lexes_rising}
use Rattle.acfg_text.proofs.trees.one_lexing.Goals as goal

pub returns-clause-found : goal.returns-clause-found
returns-clause-found c = one_lexes

pub returns-clause-slices : goal.returns-clause-slices
returns-clause-slices c = lexes_slices

pub returns-clause-rising : goal.returns-clause-rising
returns-clause-rising c = lexes_rising
