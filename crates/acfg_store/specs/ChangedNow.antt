-- Private: what a change that is for now makes of the containers that are kept. No public clause cites it.
use Rattle.std.specs.Prelude.{◌≡◌, ℕ, true, List, get_or, None, Some, Result, Ok, Err}
use Rattle.std.specs.FinMap.{get}
use Rattle.acfg_model.specs.declared.changes.Change.{Change}
use Rattle.acfg_model.specs.declared.refusals.Refusal.{Refusal}
use Rattle.acfg_model.specs.State.{IsValidContainer}
use Rattle.acfg_model.specs.Step.{change_step, changed, now_refusal, refused}
use Rattle.acfg_store.specs.declared.containers.Kept.{Kept}
use Rattle.acfg_store.specs.Opening.{entries_of}
use Rattle.acfg_store.specs.Planned.{IsChangedAt}
use Rattle.acfg_store.specs.Stands.{state_of}
use Rattle.acfg_store.specs.Turned.{other_slot}

-- a change of the overrides of one that is kept, where none that is for now is refused
pub record IsTurnedNow (change : Change) (old new : Kept) : Type 0 where
  pub goes : now_refusal old.container change ≡ None
  pub made : new.container ≡ changed old.container change
  pub valid : IsValidContainer new.container
  pub turned : new ≡ record old { container = new.container; override_slot = other_slot old.override_slot }

-- that, or the refusal
abbrev pub IsChangeNow : {A : Type 0} → Change → Result A Refusal → Kept → Kept → Type 0
IsChangeNow change (Ok done) old new = IsTurnedNow change old new
IsChangeNow change (Err why) old new = (now_refusal old.container change ≡ Some why) × (new ≡ old)

-- the one at a place, which has the name, is changed, and no change that is for now is refused
pub record IsChangedNow (name : List ℕ) (change : Change) (old new : List Kept) (at : ℕ) : Type 0 where
  pub changed_at : IsChangedAt name change old new at
  pub named : (d : Kept) → (get_or old at d).name ≡ name
  pub there : (d : Kept) → get (state_of (entries_of old)) name ≡ Some (get_or old at d).container
  pub goes : (d : Kept) → now_refusal (get_or old at d).container change ≡ None
  pub made : (d : Kept) → (get_or new at d).container ≡ changed (get_or old at d).container change

-- the change is refused, and they are as they were
pub record IsRefusedNow (name : List ℕ) (change : Change) (old new : List Kept) (why : Refusal) : Type 0 where
  pub same : new ≡ old
  pub step : change_step true (state_of (entries_of old)) name change ≡ refused (state_of (entries_of old)) why
