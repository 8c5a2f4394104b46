use Rattle.std.proofs.Common.{IsTrue}
use Rattle.acfg_device.specs.Disk.{IsSettled}
use Rattle.acfg_device.specs.Left.{LeavesSince}
use Rattle.acfg_device.specs.Only.{OnlyChanges}
use Rattle.acfg_store.specs.Applied.{IsOpen, LeavesBetween, state_in}
use Rattle.acfg_store.specs.Names.{IsOfDirectory}
use Rattle.acfg_store.proofs.AllBooted.{IsBootedTo, all_booted}
use Rattle.acfg_store.proofs.store.Store.boot.Given as goal

abbrev pub invariant-loop-at : goal.invariant-loop-at
invariant-loop-at g l = record {
  booted : IsBootedTo (g.D.Panel.files l.initial.device) (g.D.Panel.said l.initial.device) l.initial.store l.at l.store (g.D.Panel.files l.device) (g.D.Panel.said l.device);
  changes : OnlyChanges g.D.Panel (IsOfDirectory l.initial.store.dir) l.initial.device l.device ⊥;
  opened : IsTrue g.D.Panel.tells → IsOpen (g.D.Panel.files l.device) l.store;
  cut : IsTrue g.D.Panel.tells → IsSettled (g.D.Panel.account l.initial.device).now → LeavesSince (g.D.Panel.account l.initial.device) (g.D.Panel.account l.device)
      (LeavesBetween (g.D.Panel.files l.initial.device) (g.D.Panel.said l.initial.device) l.initial.store (all_booted (state_in l.initial.store)));
  settled : IsTrue g.D.Panel.tells → IsSettled (g.D.Panel.account l.initial.device).now → IsSettled (g.D.Panel.account l.device).now;
}
