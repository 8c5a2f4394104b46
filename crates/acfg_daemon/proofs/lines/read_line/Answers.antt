use Rattle.std.proofs.Common.{refl}
use Rattle.acfg_daemon.proofs.lines.read_line.Goals as goal

pub returns-in-None : goal.returns-in-None
returns-in-None c number = (refl, λ client piece good. c.in-None.ensures (client, piece) good)
