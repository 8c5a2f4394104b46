-- What a call does for one step of the machine, it does for the request that asks for the step; and reading before it
-- changes nothing of that.
use Rattle.std.proofs.Common.{◌≡◌, ℕ, List, Option, None, refl, sym, ap, subst, ◌∙◌, arith}
use Rattle.std.specs.Prelude.{IsTrue, Result, Ok, Err, IfOk, IfErr}
use Rattle.acfg_base.specs.Release.{Key}
use Rattle.acfg_device.specs.declared.panel.Panel.{Ghosts}
use Rattle.acfg_device.specs.declared.panel.ReadFault.{ReadFault}
use Rattle.acfg_device.specs.declared.panel.ReadFault.TheVariants.{Failed}
use Rattle.acfg_device.specs.declared.panel.ReadFault.TheVariants as read
use Rattle.acfg_device.specs.Account.{Account}
use Rattle.acfg_device.specs.Disk.{IsSettled, told}
use Rattle.acfg_device.specs.Left.{LeavesSince}
use Rattle.acfg_device.specs.Only.{OnlyReads}
use Rattle.acfg_device.specs.Panel.{Files}
use Rattle.acfg_device.proofs.OnlyThen.{changes_then, reads_changes, reads_then}
use Rattle.acfg_model.specs.declared.requests.Loaded.{Loaded}
use Rattle.acfg_model.specs.declared.requests.Reply.{Reply}
use Rattle.acfg_model.specs.declared.requests.Request.{Request}
use Rattle.acfg_model.specs.State.{State}
use Rattle.acfg_model.specs.Step.{step}
use Rattle.acfg_store.specs.declared.store_fault.StoreFault.{StoreFault}
use Rattle.acfg_store.specs.declared.store_fault.StoreFault.TheVariants.{Damaged, Device, OutOfMemory}
use Rattle.acfg_store.specs.Answered.{Answer, MakesStep, MeetsRequest}
use Rattle.acfg_store.specs.Applied.{IsMade, IsOfCall, IsOpen, IsQuiet, LeavesBetween, state_in}
use Rattle.acfg_store.specs.Loading.{image_load}
use Rattle.acfg_store.specs.Names.{IsOfDirectory}
use Rattle.acfg_store.specs.Request.{IsAnswered}
use Rattle.acfg_store.specs.Store.{StoreView}
use Rattle.acfg_store.specs.StoreFaults.{fault_of}
use Rattle.acfg_store.proofs.OverridesCommitted.{rests}

pub key_is : (key : Key) (first second «package» flag : List ℕ) → key ≡ (first, second) → first ≡ «package» → second ≡ flag → key ≡ («package», flag)
key_is key first second «package» flag is same_first same_second = is ∙ (λ i. (same_first i, same_second i))

-- a device is settled behind a call unless the outside failed, where it is so behind the two other answers
pub rests_unless : (result : Answer) (Rests : Type 0) → IfErr result IsOfCall → IfOk result (λ made. Rests) → (result ≡ Err OutOfMemory → Rests) → (result ≡ Err Device → ⊥) → Rests
rests_unless (Ok made) Rests fault ok memory other = ok
rests_unless (Err (Damaged name)) Rests fault ok memory other = absurd fault
rests_unless (Err Device) Rests fault ok memory other = absurd (other refl)
rests_unless (Err OutOfMemory) Rests fault ok memory other = memory refl

module _ {P : Type 0} (panel : Ghosts P) (store : StoreView) where
  -- one step is what the request asks for, with what is loaded for it
  pub meets : (request : Request) (outcome : State × Reply) (before after : P) (result : Answer) → (loaded : Option Loaded) → (IsTrue panel.tells → loaded ≡ image_load (panel.files before) request)
      → step (state_in store) request loaded ≡ outcome → MakesStep panel store outcome before after result → MeetsRequest panel store request before after result
  meets request outcome before after result loaded of is makes = record {
    made = answered result makes.made;
    opened = makes.opened;
    changes = makes.changes;
    quiet = makes.quiet;
    memory = λ first. makes.memory;
    fault = makes.fault;
    cut = λ told settled. subst (λ (new : State). LeavesSince (panel.account before) (panel.account after) (LeavesBetween (panel.files before) (panel.said before) store new))
        (sym (ap (λ (o : State × Reply). o.0) (ap (step (state_in store) request) (sym (of told)) ∙ is))) (makes.cut told settled);
    settled = λ told settled. rests_unless result (IsSettled (panel.account after).now) makes.fault (makes.settled told settled)
        (λ refused. subst (λ (account : Account). IsSettled account.now) (sym (makes.memory refused).account) settled);
  }
    where
      answered : (result : Answer) → IfOk result (λ made. IsMade store outcome made.0 made.1)
          → IfOk result (λ made. IsAnswered panel.tells (panel.files before) store request made.0 made.1)
      answered (Ok made) is_made = record { loaded = loaded; of = of; makes = subst (λ (o : State × Reply). IsMade store o made.0 made.1) (sym is) is_made }
      answered (Err fault) is_made = is_made

  -- a step behind a call that only reads
  pub reads_first : (outcome : State × Reply) (first second third : P) (result : Answer) (fails : Type 0) → OnlyReads panel first second fails → MakesStep panel store outcome second third result
      → MakesStep panel store outcome first third result
  reads_first outcome first second third result fails reads makes = record {
    made = makes.made;
    opened = makes.opened;
    changes = changes_then (IsOfDirectory store.dir) (reads_changes (IsOfDirectory store.dir) reads) makes.changes (λ failed. failed);
    quiet = quiet result makes.quiet;
    memory = λ refused. reads_then reads (makes.memory refused) (λ never. never);
    fault = makes.fault;
    cut = λ told settled. cut (panel.files second) (panel.files first) (panel.said second) (panel.said first) reads.files reads.said (panel.account second) (panel.account first) reads.account
        (makes.cut told) settled;
    settled = λ told settled. makes.settled told (subst (λ (account : Account). IsSettled account.now) (sym reads.account) settled);
  }
    where
      quiet : (result : Answer) → IfOk result (λ made. IsQuiet made.1 → OnlyReads panel second third ⊥) → IfOk result (λ made. IsQuiet made.1 → OnlyReads panel first third ⊥)
      quiet (Ok made) is = λ quiet. reads_then reads (is quiet) (λ never. never)
      quiet (Err fault) is = is

      cut : (files was : Files) (said spoken : List ℕ) → files ≡ was → said ≡ spoken → (account start : Account) → account ≡ start
          → (IsSettled account.now → LeavesSince account (panel.account third) (LeavesBetween files said store outcome.0)) → IsSettled start.now
          → LeavesSince start (panel.account third) (LeavesBetween was spoken store outcome.0)
      cut files was said spoken same_files same_said account start same leaves =
          subst (λ (of : Files × List ℕ × Account). IsSettled of.2.now → LeavesSince of.2 (panel.account third) (LeavesBetween of.0 of.1 store outcome.0)) (λ i. (same_files i, same_said i, same i)) leaves

  rested : (account : Account) (first : Files) (spoken : List ℕ) (new : State) → first ≡ told account.now → spoken ≡ account.now.said → IsSettled account.now → IsOpen first store
      → LeavesSince account account (LeavesBetween first spoken store new)
  rested account first spoken new files said settled opened =
      subst (λ (spoken : List ℕ). LeavesSince account account (LeavesBetween first spoken store new)) (sym said) (rests account first store new files settled opened)

  -- a call that only reads and then gives up
  pub gives_up : (request : Request) (before after : P) (fault : StoreFault) → IsOfCall fault → OnlyReads panel before after (◌≡◌ {A = Answer} (Err fault) (Err Device))
      → panel.files before ≡ told (panel.account before).now → panel.said before ≡ (panel.account before).now.said → (IsTrue panel.tells → IsOpen (panel.files before) store)
      → MeetsRequest panel store request before after (Err fault)
  gives_up request before after fault of_call reads files_told said_told opened =
      let new : State = (step (state_in store) request (image_load (panel.files before) request)).0 in
      record {
        made = tt;
        opened = λ told. tt;
        changes = reads_changes (IsOfDirectory store.dir) reads;
        quiet = tt;
        memory = λ first refused. record { files = reads.files; said = reads.said; account = reads.account; count = reads.count; failed = λ never. absurd never };
        fault = of_call;
        cut = λ told settled. subst (λ (end : Account). LeavesSince (panel.account before) end (LeavesBetween (panel.files before) (panel.said before) store new)) (sym reads.account)
            (rested (panel.account before) (panel.files before) (panel.said before) new files_told said_told settled (opened told));
        settled = λ told settled other. subst (λ (account : Account). IsSettled account.now) (sym reads.account) settled;
      }

  -- a reply to what changes nothing, for which no call is made
  pub replies : (request : Request) (at : P) (reply : Reply) → image_load (panel.files at) request ≡ None → IsMade store (step (state_in store) request None) store reply
      → panel.files at ≡ told (panel.account at).now → panel.said at ≡ (panel.account at).now.said → (IsTrue panel.tells → IsOpen (panel.files at) store)
      → MeetsRequest panel store request at at (Ok (store, reply))
  replies request at reply none makes files_told said_told opened =
      let new : State = (step (state_in store) request (image_load (panel.files at) request)).0 in
      let reads : OnlyReads panel at at ⊥ = record { files = refl; said = refl; account = refl; count = omega arith; failed = λ never. absurd never } in
      record {
        made = record { loaded = None; of = λ told. sym none; makes = makes };
        opened = opened;
        changes = record { others = λ name foreign. refl; said = refl; count = omega arith; failed = λ fails. cc };
        quiet = λ quiet. reads;
        memory = λ first refused. reads;
        fault = tt;
        cut = λ told settled. rested (panel.account at) (panel.files at) (panel.said at) new files_told said_told settled (opened told);
        settled = λ told settled other. settled;
      }

-- why a file isn't read, as the fault of a call
pub read_of_call : (fault : ReadFault) (made : StoreFault) → made ≡ fault_of fault → IsOfCall made
read_of_call Failed made is = subst IsOfCall (sym is) tt
read_of_call read.OutOfMemory made is = subst IsOfCall (sym is) tt

pub read_failed : {X Y : Type 0} → (fault : ReadFault) (made : StoreFault) → made ≡ fault_of fault → ◌≡◌ {A = Result X StoreFault} (Err made) (Err Device) → ◌≡◌ {A = Result Y ReadFault} (Err fault) (Err Failed)
read_failed Failed made is fails = refl
read_failed read.OutOfMemory made is fails = cc

pub reads_as : {P : Type 0} (panel : Ghosts P) (before after : P) (some fails : Type 0) → OnlyReads panel before after some → (fails → some) → OnlyReads panel before after fails
reads_as panel before after some fails reads is = record { files = reads.files; said = reads.said; account = reads.account; count = reads.count; failed = λ fault. reads.failed (is fault) }

-- want of memory is no failure of the outside
pub no_device : (made : StoreFault) → made ≡ OutOfMemory → ◌≡◌ {A = Answer} (Err made) (Err Device) → ⊥
no_device made is fails = cc
