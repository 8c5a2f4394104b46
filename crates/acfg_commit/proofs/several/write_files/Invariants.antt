use Rattle.std.proofs.Common.{◌≡◌, ◌+◌, ◌*◌, IsTrue, ℕ, List, drop, take}
use Rattle.acfg_device.specs.Account.{moment}
use Rattle.acfg_device.specs.Left.{IsReady, LeavesBut, NotMovedTo}
use Rattle.acfg_device.specs.Only.{OnlyChanges}
use Rattle.acfg_commit.specs.Written.{AreFree, AreSynced, IsNameAmong, written}
use Rattle.acfg_commit.proofs.several.write_files.Given as goal

abbrev pub invariant-loop-file : goal.invariant-loop-file
invariant-loop-file g l = record {
  files : IsTrue g.D.Panel.tells → written (drop l.file-index l.files) (g.D.Panel.files l.device) ≡ written l.files (g.D.Panel.files l.initial.device);
  changes : OnlyChanges g.D.Panel (IsNameAmong l.files) l.initial.device l.device ⊥;
  cut : IsTrue g.D.Panel.tells → AreFree l.files (g.D.Panel.account l.initial.device).now → LeavesBut (IsNameAmong l.files) (g.D.Panel.account l.initial.device) (g.D.Panel.account l.device);
  free : IsTrue g.D.Panel.tells → (name : List ℕ) → NotMovedTo (g.D.Panel.account l.initial.device).now.pending name → NotMovedTo (g.D.Panel.account l.device).now.pending name;
  ready : IsTrue g.D.Panel.tells → IsReady (g.D.Panel.account l.initial.device).now → IsReady (g.D.Panel.account l.device).now;
  calls : IsTrue g.D.Panel.tells → moment (g.D.Panel.account l.device) ≡ moment (g.D.Panel.account l.initial.device) + 2 * l.file-index;
  synced : IsTrue g.D.Panel.tells → AreSynced (take l.file-index l.files) (g.D.Panel.account l.device).now;
}
