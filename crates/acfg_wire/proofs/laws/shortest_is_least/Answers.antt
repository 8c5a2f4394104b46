use Rattle.acfg_wire.proofs.Shortest.{shortest_spells, shortest_least, shortest_only}
use Rattle.acfg_wire.proofs.laws.shortest_is_least.Goals as goal

pub returns : goal.returns
returns c = record { spells = shortest_spells; least = shortest_least; only = shortest_only }
