use Rattle.acfg_text.proofs.Again.{printed_spells}
use Rattle.acfg_text.proofs.printer.printed_again.Goals as goal

pub returns : goal.returns
returns c = printed_spells
