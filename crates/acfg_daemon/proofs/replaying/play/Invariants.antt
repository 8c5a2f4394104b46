use Rattle.std.proofs.Common.{◌≡◌, ◌≤◌, ◌+◌, length, IsTrue}
use Rattle.acfg_device.specs.Disk.{IsSettled}
use Rattle.acfg_device.specs.Left.{LeavesSince}
use Rattle.acfg_store.specs.Applied.{IsOpen, state_in}
use Rattle.acfg_store.specs.Names.{IsOfDirectory}
use Rattle.acfg_daemon.specs.Lines.{lines}
use Rattle.acfg_daemon.specs.Replayed.{LeavesRun, OnlyAnswers}
use Rattle.acfg_daemon.proofs.Played.{Goes}
use Rattle.acfg_daemon.proofs.replaying.play.Given as goal

abbrev pub invariant-loop-rest : goal.invariant-loop-rest
invariant-loop-rest g l = record {
  short : l.number + length l.rest ≤ length l.script;
  dir : l.store.dir ≡ l.fn.opened.dir;
  answers : OnlyAnswers g.D.Panel (IsOfDirectory l.fn.opened.dir) l.fn.device l.device ⊥;
  goes : IsTrue g.D.Panel.tells → Goes (g.D.Panel.files l.fn.device) (g.D.Panel.said l.fn.device) l.fn.opened l.script l.store l.number l.rest (g.D.Panel.said l.device);
  ready : IsTrue g.D.Panel.tells → IsOpen (g.D.Panel.files l.device) l.store;
  cut : IsTrue g.D.Panel.tells → IsSettled (g.D.Panel.account l.fn.device).now
      → LeavesSince (g.D.Panel.account l.fn.device) (g.D.Panel.account l.device)
      (LeavesRun (g.D.Panel.files l.fn.device) (g.D.Panel.said l.fn.device) l.fn.opened.dir (state_in l.fn.opened) (lines l.script));
  settled : IsTrue g.D.Panel.tells → IsSettled (g.D.Panel.account l.fn.device).now → IsSettled (g.D.Panel.account l.device).now;
}

abbrev pub decreases-loop-rest : goal.decreases-loop-rest
decreases-loop-rest g l = length l.rest
