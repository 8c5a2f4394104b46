-- The changes of kept flags are those of their container, and keep it lawful.
use Rattle.std.proofs.Common.{◌≡◌, ℕ, List, get_or, set, Option, None, Some, Result, Ok, refl, sym, ap, subst, ◌∙◌}
use Rattle.acfg_base.specs.Places.{StandsAt}
use Rattle.acfg_base.specs.Release.{key_cmp}
use Rattle.acfg_model.specs.declared.changes.Change.{Change}
use Rattle.acfg_model.specs.declared.changes.Change.TheVariants.{SetServer, SetLocal, UnsetLocal}
use Rattle.acfg_model.specs.declared.containers.FlagState.{FlagState}
use Rattle.acfg_model.specs.declared.refusals.Refusal.{Refusal}
use Rattle.acfg_model.specs.FlagStates.{row_key, release_in, local_in, container_in, changed_row, IsLawful}
use Rattle.acfg_model.specs.State.{BootMap, Container, IsValidContainer}
use Rattle.acfg_model.specs.Step.{unless, change_refusal, changed, changed_key, with_change}
use Rattle.acfg_model.proofs.Rowed.{order_set, container-server, container-local, container-unset}
use Rattle.acfg_model.proofs.Valid.{IsValidContainer-changed}

-- the rows make a lawful container, which is what a change asked for
pub record Makes (digest : List ℕ) (rows : List FlagState) (boot : Option BootMap) (outcome : Result Container Refusal) : Type 0 where
  pub lawful : IsLawful rows (container_in digest rows boot)
  pub comes : outcome ≡ Ok (container_in digest rows boot)

-- a change of its flag's row is the change of the container
container-changed : (digest : List ℕ) (rows : List FlagState) (boot : Option BootMap) (lawful : IsLawful rows (container_in digest rows boot)) (change : Change) (at : ℕ)
    (stands : StandsAt key_cmp row_key rows (changed_key change) at) (row : FlagState) → row ≡ get_or rows at row
    → container_in digest (set rows at (changed_row change row)) boot ≡ changed (container_in digest rows boot) change
container-changed digest rows boot lawful (SetServer key value) at stands row is =
    container-server rows lawful.order key at stands row is digest boot (record row { server = Some value }) refl value refl refl
container-changed digest rows boot lawful (SetLocal key value) at stands row is =
    container-local rows lawful.order key at stands row is digest boot (record row { local = Some value }) refl value refl refl
container-changed digest rows boot lawful (UnsetLocal key) at stands row is =
    container-unset rows lawful.order key at stands row is digest boot (record row { local = None }) refl refl refl

same_entry : (change : Change) (row : FlagState) → (changed_row change row).entry ≡ row.entry
same_entry (SetServer key value) row = refl
same_entry (SetLocal key value) row = refl
same_entry (UnsetLocal key) row = refl

pub change-makes : (digest : List ℕ) (rows : List FlagState) (boot : Option BootMap) (lawful : IsLawful rows (container_in digest rows boot)) (change : Change) (at : ℕ)
    (stands : StandsAt key_cmp row_key rows (changed_key change) at) (row : FlagState) → row ≡ get_or rows at row
    → change_refusal (release_in rows) (local_in rows) change ≡ None
    → Makes digest (set rows at (changed_row change row)) boot (with_change (container_in digest rows boot) change)
change-makes digest rows boot lawful change at stands row is may =
    let made = container-changed digest rows boot lawful change at stands row is in
    record {
      lawful = record {
        order = order_set rows lawful.order (changed_key change) at stands row is digest boot (changed_row change row) (same_entry change row);
        valid = subst IsValidContainer (sym made) (IsValidContainer-changed (container_in digest rows boot) lawful.valid change may);
      };
      comes = ap (λ r. unless r (changed (container_in digest rows boot) change)) may ∙ ap Ok (sym made);
    }
