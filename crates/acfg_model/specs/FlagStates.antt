-- The flags of a release with their overrides, as rows in order: how a container is kept, and how it changes.
use Rattle.std.specs.Prelude.{◌≡◌, ℕ, List, Option, None, Some, Result, Ok, Err, MatchResult}
use Rattle.std.specs.Prelude.{is_some, unwrap_or, option_map}
use Rattle.std.specs.FinMap.{get}
use Rattle.acfg_base.specs.Places.{AreInOrder, StandsAt, map_of, map_where}
use Rattle.acfg_base.specs.Release.{Key, key_cmp, key_of, facts_of, ReleaseMap}
use Rattle.acfg_model.specs.declared.refusals.Refusal.{Refusal}
use Rattle.acfg_model.specs.declared.containers.FlagState.{FlagState}
use Rattle.acfg_model.specs.State.{OverrideMap, BootMap, BootedFlag, Container, IsValidContainer}
use Rattle.acfg_model.specs.declared.changes.Change.{Change}
use Rattle.acfg_model.specs.declared.changes.Change.TheVariants.{SetServer, SetLocal, UnsetLocal}
use Rattle.acfg_model.specs.Step.{change_refusal, changed_key, with_flag}

abbrev pub row_key : FlagState → Key
row_key row = key_of row.entry

abbrev pub release_in : List FlagState → ReleaseMap
release_in rows = map_of key_cmp row_key rows (λ row. facts_of row.entry)

abbrev pub server_in : List FlagState → OverrideMap
server_in rows = map_where key_cmp row_key rows (λ row. row.server)

abbrev pub local_in : List FlagState → OverrideMap
local_in rows = map_where key_cmp row_key rows (λ row. row.local)

abbrev pub container_in : List ℕ → List FlagState → Option BootMap → Container
container_in digest rows boot =
    record { digest = digest; release = release_in rows; server = server_in rows; local = local_in rows; boot = boot }

-- the rows are in order, and the container that they make is valid
pub record IsLawful (rows : List FlagState) (container : Container) : Type 0 where
  pub order : AreInOrder key_cmp row_key rows
  pub valid : IsValidContainer container

-- a change of a container: what it leaves, or the refusal, which leaves it as it was
abbrev pub IsOutcome : {A : Type 0} → Result Container Refusal → Result A Refusal → Container → Container → Type 0
IsOutcome outcome (Ok done) old new = outcome ≡ Ok new
IsOutcome outcome (Err refusal) old new = (outcome ≡ Err refusal) × (new ≡ old)

-- what a search for a flag answers: its place, or why there is none to change
abbrev pub IsPlaceUnless : List FlagState → Key → Option Refusal → Result ℕ Refusal → Type 0
IsPlaceUnless rows key refusal r =
    MatchResult r (λ at. StandsAt key_cmp row_key rows key at × (refusal ≡ None)) (λ why. refusal ≡ Some why)

-- the same, for the flag of a change
abbrev pub IsChangeable : List FlagState → Change → Result ℕ Refusal → Type 0
IsChangeable rows change r =
    IsPlaceUnless rows (changed_key change) (change_refusal (release_in rows) (local_in rows) change) r

-- the state of a flag with a change
abbrev pub changed_row : Change → FlagState → FlagState
changed_row (SetServer key value) row = record row { server = Some value }
changed_row (SetLocal key value) row = record row { local = Some value }
changed_row (UnsetLocal key) row = record row { local = None }

-- what a flag's entry in the boot copy takes of its row: the pick, and a note of each override
abbrev pub picked_flag : FlagState → BootedFlag → BootedFlag
picked_flag row was = record {
  kind = was.kind;
  value = unwrap_or row.local (unwrap_or row.server row.entry.value);
  server = is_some row.server;
  local = is_some row.local;
}

-- a boot copy with the entry of a row's flag anew
abbrev pub boot_renewed : FlagState → Key → BootMap → BootMap
boot_renewed row key boot = with_flag boot key (option_map (picked_flag row) (get boot key))
