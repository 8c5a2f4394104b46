-- What a request promises of a store, of its directory and of the device, each in one word.
--
-- Of a call over a store `self`, whose outcome is the state and the reply of a definition, and which gives a store and
-- a reply or a fault, these are the clauses; `first` is `D.files device.old`, `start` is `D.account device.old`.
--
--     requires open { IsTrue D.tells → IsOpen (D.files device.old) self }
--     ensures made { IfOk result (λ made. IsMade self outcome made.0 made.1) }
--     ensures open { IsTrue D.tells → IfOk result (λ made. IsOpen (D.files device.new) made.0) }
--     ensures changes { OnlyChanges D.Panel (IsOfDirectory self.dir) device.old device.new (result ≡ Err Device) }
--     ensures quiet { IfOk result (λ made. IsQuiet made.1 → OnlyReads D.Panel device.old device.new ⊥) }
--     ensures memory { result ≡ Err OutOfMemory → OnlyReads D.Panel device.old device.new ⊥ }
--     ensures fault { IfErr result IsOfCall }
--     ensures cut { IsTrue D.tells → IsSettled start.now → LeavesSince start (D.account device.new)
--         (LeavesBetween first (D.said device.old) self outcome.0) }
--     ensures settled { IsTrue D.tells → IsSettled start.now
--         → IfOk result (λ made. IsSettled (D.account device.new).now) }
--
-- The clause `memory` is of a call of one commit: it takes its memory before the first write. Where several commits
-- follow each other, it says instead that the files stand for a state between, as after a cut; and `rests` that the
-- device is settled then too:
--
--     ensures memory { IsTrue D.tells → result ≡ Err OutOfMemory
--         → LeavesBetween first (D.said device.old) self outcome.0 (D.files device.new) (D.said device.new) }
--     ensures rests { IsTrue D.tells → IsSettled start.now → result ≡ Err OutOfMemory
--         → IsSettled (D.account device.new).now }
use Rattle.std.specs.Prelude.{◌≡◌, ◌⊎◌, ⊤, ℕ, List, Option, None, option_map, option_and_then}
use Rattle.std.specs.FinMap.{get}
use Rattle.acfg_device.specs.Panel.{Files}
use Rattle.acfg_model.specs.declared.requests.Reply.{Reply}
use Rattle.acfg_model.specs.declared.requests.Reply.TheVariants.{Fine, Updated, Unchanged, Value, Refused}
use Rattle.acfg_model.specs.State.{BootMap, Container, State}
use Rattle.acfg_store.specs.declared.store_fault.StoreFault.{StoreFault}
use Rattle.acfg_store.specs.declared.store_fault.StoreFault.TheVariants.{Damaged, Device, OutOfMemory}
use Rattle.acfg_store.specs.Commits.{IsLayout, LeavesState}
use Rattle.acfg_store.specs.Sets.{AreSetsOfAll}
use Rattle.acfg_store.specs.Stands.{state_of}
use Rattle.acfg_store.specs.Store.{StoreView}

-- What a store needs of the files, and gives back: its containers lie there and make a valid state, and the files that
-- it keeps stand in their named slots.
pub record IsOpen (files : Files) (store : StoreView) : Type 0 where
  pub layout : IsLayout files store.dir store.entries
  pub kept : AreSetsOfAll files store.dir store.entries store.sets

-- the state that a store stands for
abbrev pub state_in : StoreView → State
state_in store = state_of store.entries

-- the store that is made has the state of the outcome and the directory of the old one; the reply is the outcome's
pub record IsMade (store : StoreView) (outcome : State × Reply) (made : StoreView) (reply : Reply) : Type 0 where
  pub dir : made.dir ≡ store.dir
  pub is : outcome ≡ (state_in made, reply)

-- a reply to what changes nothing
abbrev pub IsQuiet : Reply → Type 0
IsQuiet Fine = ⊥
IsQuiet (Updated digest count) = ⊥
IsQuiet Unchanged = ⊤
IsQuiet (Value value) = ⊤
IsQuiet (Refused number) = ⊤

-- no damage is told
abbrev pub IsOfCall : StoreFault → Type 0
IsOfCall (Damaged name) = ⊥
IsOfCall Device = ⊤
IsOfCall OutOfMemory = ⊤

-- ---- what a cut leaves

-- a container but for its boot copy
abbrev pub persistent : Container → Container
persistent container = record container { boot = None }

abbrev pub boot_in : Option Container → Option BootMap
boot_in container = option_and_then (λ (c : Container). c.boot) container

-- of a container, what the new state has, but that the boot copy may be that of the old one
pub record IsMixedAt (old new now : Option Container) : Type 0 where
  pub same : option_map persistent now ≡ option_map persistent new
  pub boot : (boot_in now ≡ boot_in old) ⊎ (boot_in now ≡ boot_in new)

-- the old state, or one that has all of the new one, but that each boot copy may be the old one
abbrev pub IsBetween : (old new now : State) → Type 0
IsBetween old new now = (now ≡ old) ⊎ ((name : List ℕ) → IsMixedAt (get old name) (get new name) (get now name))

abbrev pub LeavesBetween : (first : Files) (spoken : List ℕ) (store : StoreView) (new : State) (files : Files)
    (said : List ℕ) → Type 0
LeavesBetween first spoken store new = LeavesState first spoken store.dir (IsBetween (state_in store) new)
