-- Private: what a change of one container's overrides makes of the containers that are kept, and what it writes. No
-- public clause cites it.
use Rattle.std.specs.Prelude.{◌≡◌, ◌<◌, ℕ, false, List, [], ◌∷◌, length, map, set, get_or, Result, Ok, Err}
use Rattle.std.specs.Prelude.{string_bytes}
use Rattle.acfg_commit.specs.declared.several.NewFile.{NewFile}
use Rattle.acfg_images.specs.declared.purpose.Use.TheVariants as purpose
use Rattle.acfg_images.specs.Set.{IsSetOf, SetParts, listing}
use Rattle.acfg_model.specs.declared.changes.Change.{Change}
use Rattle.acfg_model.specs.declared.refusals.Refusal.{Refusal}
use Rattle.acfg_model.specs.declared.requests.Reply.TheVariants.{Fine}
use Rattle.acfg_model.specs.FlagStates.{IsOutcome}
use Rattle.acfg_model.specs.State.{IsValidContainer}
use Rattle.acfg_model.specs.Step.{change_step, refused, with_change}
use Rattle.acfg_store.specs.declared.containers.Kept.{Kept}
use Rattle.acfg_store.specs.declared.names.OverrideFile.TheVariants as override
use Rattle.acfg_store.specs.declared.names.Part.TheVariants.{NewRecords, Override, Records}
use Rattle.acfg_store.specs.declared.planning.Plan.{Plan}
use Rattle.acfg_store.specs.Names.{path}
use Rattle.acfg_store.specs.Opening.{AreKept, all_sets_of, entries_of}
use Rattle.acfg_store.specs.Records.{records_bytes}
use Rattle.acfg_store.specs.Stands.{AreBytesOf, AreLocalsOf, recorded, server_info, server_value, state_of}
use Rattle.acfg_store.specs.Turned.{other_slot}
use Rattle.acfg_views.specs.Layout.{flag_info_type, flag_val_type}

-- ---- a container

-- changed overrides are in the other slot
abbrev pub IsTurned : {A : Type 0} → Result A Refusal → Kept → Kept → Type 0
IsTurned (Ok done) old new =
    new ≡ record old { container = new.container; override_slot = other_slot old.override_slot }
IsTurned (Err refusal) old new = new ≡ old

-- a change of one that is kept: of its overrides, unless it is refused
pub record IsChange {A : Type 0} (change : Change) (result : Result A Refusal) (old new : Kept) : Type 0 where
  pub outcome : IsOutcome (with_change old.container change) result old.container new.container
  pub valid : IsValidContainer new.container
  pub turned : IsTurned result old new

-- ---- the containers

-- the one at a place is changed
pub record IsChangedAt (name : List ℕ) (change : Change) (old new : List Kept) (at : ℕ) : Type 0 where
  pub within : at < length old
  pub was : Kept
  pub one : Kept
  pub was_is : was ≡ get_or old at was
  pub are : new ≡ set old at one
  pub turned : one ≡ record was { container = one.container; override_slot = other_slot was.override_slot }
  pub same_release : one.container.release ≡ was.container.release
  pub same_digest : one.container.digest ≡ was.container.digest
  pub same_boot : one.container.boot ≡ was.container.boot
  pub kept : AreKept new
  pub sets : all_sets_of new ≡ all_sets_of old
  pub step : change_step false (state_of (entries_of old)) name change ≡ (state_of (entries_of new), Fine)

-- the change is refused, and they are as they were
pub record IsRefusedFor (name : List ℕ) (change : Change) (old new : List Kept) (why : Refusal) : Type 0 where
  pub same : new ≡ old
  pub step : change_step false (state_of (entries_of old)) name change ≡ refused (state_of (entries_of old)) why

-- ---- what is written

-- the files of an override slot
pub record AreSlotFiles (dir : List ℕ) (one : Kept) (files : List NewFile) : Type 0 where
  pub parts : SetParts
  pub is_set : IsSetOf one.release purpose.Release parts
  pub values : NewFile
  pub infos : NewFile
  pub locals : NewFile
  pub are : files ≡ values ∷ infos ∷ locals ∷ []
  pub values_named : string_bytes values.name ≡ path dir one.name (Override one.override_slot override.FlagVal)
  pub infos_named : string_bytes infos.name ≡ path dir one.name (Override one.override_slot override.FlagInfo)
  pub locals_named : string_bytes locals.name ≡ path dir one.name (Override one.override_slot override.Local)
  pub values_are : AreBytesOf flag_val_type values.bytes.items parts.package_map.container
      (server_value one.container.server) (listing parts)
  pub infos_are : AreBytesOf flag_info_type infos.bytes.items parts.package_map.container
      (server_info one.container.server) (listing parts)
  pub locals_are : AreLocalsOf locals.bytes.items one.container.local (listing parts)

-- the override slot of the container at a place, and the list of all
pub record IsPlanned (dir : List ℕ) (kept : List Kept) (at : ℕ) (plan : Plan) : Type 0 where
  pub slot : (d : Kept) → AreSlotFiles dir (get_or kept at d) plan.slot.items
  pub beside : string_bytes plan.beside ≡ path dir [] NewRecords
  pub list : string_bytes plan.list ≡ path dir [] Records
  pub bytes : plan.bytes.items ≡ records_bytes (map recorded (entries_of kept))
