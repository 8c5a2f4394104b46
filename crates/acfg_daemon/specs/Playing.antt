-- Private: a script played on an open store, and one line of it. No public clause cites it.
use Rattle.std.specs.Prelude.{◌≡◌, ◌⊎◌, ℕ, List, [], ◌++◌}
use Rattle.acfg_device.specs.Left.{SameBut}
use Rattle.acfg_device.specs.Panel.{Files}
use Rattle.acfg_model.specs.declared.requests.Reply.{Reply}
use Rattle.acfg_model.specs.State.{State}
use Rattle.acfg_store.specs.declared.store_fault.StoreFault.{StoreFault}
use Rattle.acfg_store.specs.declared.store_fault.StoreFault.TheVariants as store
use Rattle.acfg_daemon.specs.declared.fault.DaemonFault.{DaemonFault}
use Rattle.acfg_daemon.specs.declared.fault.DaemonFault.TheVariants.{Damaged, Device, OutOfMemory}
use Rattle.acfg_daemon.specs.Lines.{lines}
use Rattle.acfg_daemon.specs.Replayed.{ImageLoads, IsAnswering}
use Rattle.acfg_daemon.specs.Transcript.{Begins, BeginsLine, LineSays, Runs, Serves}
use Rattle.acfg_store.specs.Applied.{IsBetween, state_in}
use Rattle.acfg_store.specs.Names.{IsOfDirectory}
use Rattle.acfg_store.specs.Stands.{Stands}
use Rattle.acfg_store.specs.Store.{StoreView}

-- the fault of a script whose store failed
abbrev pub fault_of_store : StoreFault → DaemonFault
fault_of_store (store.Damaged name) = Damaged name
fault_of_store store.Device = Device
fault_of_store store.OutOfMemory = OutOfMemory

-- ---- a request's text

-- the store and the reply that a request's text makes
pub record IsServed (files : Files) (store : StoreView) (text : List ℕ) (made : StoreView) (reply : Reply)
    : Type 0 where
  pub dir : made.dir ≡ store.dir
  pub serves : Serves (ImageLoads files) (state_in store) text (state_in made) reply

-- the way of a request's text to the state behind it
pub record IsServing (files : Files) (state : State) (text : List ℕ) (left : State) : Type 0 where
  pub after : State
  pub reply : Reply
  pub serves : Serves (ImageLoads files) state text after reply
  pub between : IsBetween state after left

abbrev pub ServesTo : Files → State → List ℕ → State → Type 0
ServesTo files state text left = (left ≡ state) ⊎ IsServing files state text left

-- ---- a line

-- the store that a line makes, and what is said to it
pub record IsTaken (files : Files) (store : StoreView) (number : ℕ) (line : List ℕ) (made : StoreView)
    (said : List ℕ) : Type 0 where
  pub dir : made.dir ≡ store.dir
  pub says : LineSays (ImageLoads files) (state_in store) number line (state_in made) said

-- the same, and it is said
pub record IsSaid (files : Files) (spoken : List ℕ) (store : StoreView) (number : ℕ) (line said : List ℕ)
    (made : StoreView) : Type 0 where
  pub text : List ℕ
  pub taken : IsTaken files store number line made text
  pub words : said ≡ spoken ++ text

-- a first part of what is said to it
pub record BeginsSaid (files : Files) (spoken : List ℕ) (store : StoreView) (number : ℕ) (line said : List ℕ)
    : Type 0 where
  pub part : List ℕ
  pub begins : BeginsLine (ImageLoads files) (state_in store) number line part
  pub words : said ≡ spoken ++ part

-- before the line, on the way through it, or behind it
abbrev pub IsAtLine : Files → State → ℕ → (line part : List ℕ) → State → Type 0
IsAtLine files state number line part left =
    ((part ≡ []) × (left ≡ state)) ⊎ IsAnswering (ImageLoads files) state number line part left
    ⊎ LineSays (ImageLoads files) state number line left part

-- what a cut leaves of a line
pub record LeavesLine (first : Files) (spoken : List ℕ) (store : StoreView) (number : ℕ) (line : List ℕ)
    (files : Files) (said : List ℕ) : Type 0 where
  pub part : List ℕ
  pub words : said ≡ spoken ++ part
  pub left : State
  pub at : IsAtLine first (state_in store) number line part left
  pub stands : Stands files store.dir left
  pub others : SameBut (IsOfDirectory store.dir) first files

-- ---- a script

-- it was answered to its end
pub record IsPlayed (first : Files) (spoken : List ℕ) (store : StoreView) (script : List ℕ) (files : Files)
    (said : List ℕ) : Type 0 where
  pub after : State
  pub text : List ℕ
  pub runs : Runs (ImageLoads first) (state_in store) 1 (lines script) after text
  pub words : said ≡ spoken ++ text
  pub stands : Stands files store.dir after

-- a first part of its transcript was said
pub record IsBegun (first : Files) (spoken : List ℕ) (store : StoreView) (script said : List ℕ) : Type 0 where
  pub text : List ℕ
  pub begins : Begins (ImageLoads first) (state_in store) 1 (lines script) text
  pub words : said ≡ spoken ++ text
