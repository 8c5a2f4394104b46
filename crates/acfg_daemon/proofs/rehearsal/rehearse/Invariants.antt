use Rattle.std.proofs.Common.{◌≤◌, ◌+◌, length, IsTrue}
use Rattle.acfg_device.specs.Only.{OnlySays}
use Rattle.acfg_daemon.specs.Sources.{Loads}
use Rattle.acfg_daemon.proofs.Going.{Goes}
use Rattle.acfg_daemon.proofs.rehearsal.rehearse.Given as goal

abbrev pub invariant-loop-rest : goal.invariant-loop-rest
invariant-loop-rest g l = record {
  short : l.number + length l.rest ≤ length l.script;
  says : OnlySays g.P.Panel l.fn.panel l.panel ⊥;
  goes : IsTrue g.P.Panel.tells → Goes (Loads (g.P.Panel.files l.fn.panel)) (g.P.Panel.said l.fn.panel) l.script l.machine l.number l.rest (g.P.Panel.said l.panel);
}

abbrev pub decreases-loop-rest : goal.decreases-loop-rest
decreases-loop-rest g l = length l.rest
