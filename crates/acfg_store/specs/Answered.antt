-- Private: what a call over a store does for a request, or for one step of the machine, in one word each. No public
-- clause cites it.
use Rattle.std.specs.Prelude.{◌≡◌, IsTrue, Result, Err, IfOk, IfErr}
use Rattle.acfg_device.specs.declared.panel.Panel.{Ghosts}
use Rattle.acfg_device.specs.Disk.{IsSettled}
use Rattle.acfg_device.specs.Left.{LeavesSince}
use Rattle.acfg_device.specs.Only.{OnlyChanges, OnlyReads}
use Rattle.acfg_model.specs.declared.requests.Reply.{Reply}
use Rattle.acfg_model.specs.declared.requests.Request.{Request}
use Rattle.acfg_model.specs.State.{State}
use Rattle.acfg_store.specs.declared.store_fault.StoreFault.{StoreFault}
use Rattle.acfg_store.specs.declared.store_fault.StoreFault.TheVariants.{Device, OutOfMemory}
use Rattle.acfg_store.specs.Applied.{IsMade, IsOfCall, IsOpen, IsQuiet, LeavesBetween}
use Rattle.acfg_store.specs.Names.{IsOfDirectory}
use Rattle.acfg_store.specs.Request.{IsAnswered, LeavesOnTheWay, TakesMemoryFirst}
use Rattle.acfg_store.specs.Store.{StoreView}

-- a store and a reply, or why there are none
abbrev pub Answer : Type 0
Answer = Result (StoreView × Reply) StoreFault

-- The clauses of a call whose outcome this is, and whose memory is taken before the first write.
pub record MakesStep {P : Type 0} (panel : Ghosts P) (store : StoreView) (outcome : State × Reply) (before after : P)
    (result : Answer) : Type 0 where
  pub made : IfOk result (λ made. IsMade store outcome made.0 made.1)
  pub opened : IsTrue panel.tells → IfOk result (λ made. IsOpen (panel.files after) made.0)
  pub changes : OnlyChanges panel (IsOfDirectory store.dir) before after (result ≡ Err Device)
  pub quiet : IfOk result (λ made. IsQuiet made.1 → OnlyReads panel before after ⊥)
  pub memory : result ≡ Err OutOfMemory → OnlyReads panel before after ⊥
  pub fault : IfErr result IsOfCall
  pub cut : IsTrue panel.tells → IsSettled (panel.account before).now
      → LeavesSince (panel.account before) (panel.account after)
      (LeavesBetween (panel.files before) (panel.said before) store outcome.0)
  pub settled : IsTrue panel.tells → IsSettled (panel.account before).now
      → IfOk result (λ made. IsSettled (panel.account after).now)

-- The clauses of `Store::apply`.
pub record MeetsRequest {P : Type 0} (panel : Ghosts P) (store : StoreView) (request : Request) (before after : P)
    (result : Answer) : Type 0 where
  pub made : IfOk result (λ made. IsAnswered panel.tells (panel.files before) store request made.0 made.1)
  pub opened : IsTrue panel.tells → IfOk result (λ made. IsOpen (panel.files after) made.0)
  pub changes : OnlyChanges panel (IsOfDirectory store.dir) before after (result ≡ Err Device)
  pub quiet : IfOk result (λ made. IsQuiet made.1 → OnlyReads panel before after ⊥)
  pub memory : TakesMemoryFirst request → result ≡ Err OutOfMemory → OnlyReads panel before after ⊥
  pub fault : IfErr result IsOfCall
  pub cut : IsTrue panel.tells → IsSettled (panel.account before).now
      → LeavesSince (panel.account before) (panel.account after)
      (LeavesOnTheWay (panel.files before) (panel.said before) store request)
  pub settled : IsTrue panel.tells → IsSettled (panel.account before).now → (result ≡ Err Device → ⊥)
      → IsSettled (panel.account after).now
