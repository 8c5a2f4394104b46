-- Private: an update of a container, as it is planned and written. No public clause cites it.
use Rattle.std.specs.Prelude.{◌≡◌, ◌<◌, ◌^◌, ℕ, List, [], ◌∷◌, ◌++◌, length, map, None, Some, string_bytes}
use Rattle.std.specs.FinMap.{get, len}
use Rattle.acfg_base.specs.Release.{HasLawfulKeys, ReleaseMap, entries_of}
use Rattle.acfg_commit.specs.declared.several.NewFile.{NewFile}
use Rattle.acfg_images.specs.declared.fault.FileType.TheVariants as image
use Rattle.acfg_images.specs.declared.purpose.Use.TheVariants as purpose
use Rattle.acfg_images.specs.Files as four
use Rattle.acfg_images.specs.Set.{IsSetOf, SetParts, listing, release_in}
use Rattle.acfg_model.specs.declared.requests.Reply.{Reply}
use Rattle.acfg_model.specs.State.{IsValidContainer, State}
use Rattle.acfg_model.specs.Step.{fresh, release_step, with_release}
use Rattle.acfg_store.specs.declared.containers.Kept.{Kept}
use Rattle.acfg_store.specs.declared.installing.Incoming.{Incoming}
use Rattle.acfg_store.specs.declared.names.OverrideFile.TheVariants as override
use Rattle.acfg_store.specs.declared.names.Part.{Part}
use Rattle.acfg_store.specs.declared.names.Part.TheVariants.{Records, NewRecords, Release, Override, Pointer}
use Rattle.acfg_store.specs.declared.names.Part.TheVariants.{NewPointer, Boot}
use Rattle.acfg_store.specs.declared.names.Slot.{Slot}
use Rattle.acfg_store.specs.declared.names.Slot.TheVariants.{Zero}
use Rattle.acfg_store.specs.declared.updating.Writes.{Writes}
use Rattle.acfg_store.specs.Kept.{entry_of, index_listed, sets_of}
use Rattle.acfg_store.specs.Names.{path}
use Rattle.acfg_store.specs.Opening.{all_sets_of, entries_of as entries_kept}
use Rattle.acfg_store.specs.Records.{records_bytes}
use Rattle.acfg_store.specs.Stands.{AreBytesOf, AreLocalsOf, Entry, IsRead, recorded, server_info, server_value}
use Rattle.acfg_store.specs.Stands.{state_of}
use Rattle.acfg_store.specs.Store.{StoreView}
use Rattle.acfg_store.specs.Turned.{other_slot}
use Rattle.acfg_views.specs.Layout.{flag_info_type, flag_val_type}
use Rattle.sha2.specs.Sha256.{sha256}

-- the name and the bytes of a file that is to be written
abbrev pub pair_of : NewFile → List ℕ × List ℕ
pair_of file = (string_bytes file.name, file.bytes.items)

-- the same of a container's part
abbrev pub named : (dir name : List ℕ) → Part × List ℕ → List ℕ × List ℕ
named dir name part = (path dir name part.0, part.1)

-- the files are these parts of a container
abbrev pub AreParts : (dir name : List ℕ) → List (Part × List ℕ) → List NewFile → Type 0
AreParts dir name parts files = map pair_of files ≡ map (named dir name) parts

-- the files of a release slot, and of an override slot
abbrev pub release_parts : Slot → four.Files → List (Part × List ℕ)
release_parts slot set =
    (Release slot image.PackageMap, set.package_map) ∷ (Release slot image.FlagMap, set.flag_map)
    ∷ (Release slot image.FlagVal, set.flag_val) ∷ (Release slot image.FlagInfo, set.flag_info) ∷ []

abbrev pub override_parts : Slot → (values infos locals : List ℕ) → List (Part × List ℕ)
override_parts slot values infos locals =
    (Override slot override.FlagVal, values) ∷ (Override slot override.FlagInfo, infos)
    ∷ (Override slot override.Local, locals) ∷ []

abbrev pub slot_parts : (release overrides : Slot) → four.Files → (values infos locals : List ℕ)
    → List (Part × List ℕ)
slot_parts release overrides set values infos locals =
    release_parts release set ++ override_parts overrides values infos locals

-- the part is one of those
abbrev pub IsSlotPart : Entry → Part → Type 0
IsSlotPart entry Records = ⊥
IsSlotPart entry NewRecords = ⊥
IsSlotPart entry (Release slot file) = slot ≡ entry.release_slot
IsSlotPart entry (Override slot file) = (slot ≡ entry.override_slot) × IsRead file
IsSlotPart entry Pointer = ⊥
IsSlotPart entry NewPointer = ⊥
IsSlotPart entry (Boot slot file) = ⊥

-- the files are those of a container's slots: its set, and its overrides over the flags that the set lists
pub record AreSlotFiles (dir : List ℕ) (entry : Entry) (set : four.Files) (parts : SetParts) (files : List NewFile)
    : Type 0 where
  pub values : List ℕ
  pub infos : List ℕ
  pub locals : List ℕ
  pub are : AreParts dir entry.name (slot_parts entry.release_slot entry.override_slot set values infos locals) files
  pub values_are : AreBytesOf flag_val_type values entry.name (server_value entry.container.server) (listing parts)
  pub infos_are : AreBytesOf flag_info_type infos entry.name (server_info entry.container.server) (listing parts)
  pub locals_are : AreLocalsOf locals entry.container.local (listing parts)

-- ---- what a container takes

-- what was loaded is a set of the container for a release, with its digest and the index of each flag
pub record IsIncoming (name : List ℕ) (incoming : Incoming) : Type 0 where
  pub parts : SetParts
  pub is_set : IsSetOf incoming.set purpose.Release parts
  pub container_is : parts.package_map.container ≡ name
  pub release_is : release_in parts ≡ incoming.release
  pub digest_is : incoming.digest ≡ sha256 (four.joined incoming.set)
  pub keys : HasLawfulKeys incoming.release
  pub fits : len incoming.release < 2 ^ 32
  pub indexes_are : map (λ index. Some index) incoming.indexes.items
      ≡ map (index_listed parts) (entries_of incoming.release)
  pub count_is : incoming.count ≡ length (listing parts)

-- the files that are kept of a container are a set for its release, with its digest and the index of each flag
pub record IsReleaseOf (kept : Kept) : Type 0 where
  pub parts : SetParts
  pub is_set : IsSetOf kept.release purpose.Release parts
  pub container_is : parts.package_map.container ≡ kept.name
  pub release_is : release_in parts ≡ kept.container.release
  pub digest_is : kept.container.digest ≡ sha256 (four.joined kept.release)
  pub indexes_are : map (λ index. Some index) kept.indexes.items
      ≡ map (index_listed parts) (entries_of kept.container.release)
  pub count_is : kept.count ≡ length (listing parts)

-- a container with another release, in the slots that weren't named
abbrev pub with_update : Entry → (digest : List ℕ) → ReleaseMap → Entry
with_update entry digest release = record entry {
  release_slot = other_slot entry.release_slot;
  override_slot = other_slot entry.override_slot;
  container = with_release entry.container digest release;
}

-- a new container
abbrev pub new_entry : (name digest : List ℕ) → ReleaseMap → Entry
new_entry name digest release = record {
  name = name;
  release_slot = Zero;
  override_slot = Zero;
  boot_slot = None;
  container = fresh digest release;
}

pub record IsTaken (old : Kept) (incoming : Incoming) (new : Kept) : Type 0 where
  pub entry : entry_of new ≡ with_update (entry_of old) incoming.digest incoming.release
  pub sets : sets_of new ≡ record { release = incoming.set; boot = (sets_of old).boot }
  pub valid : IsValidContainer new.container
  pub release : IsReleaseOf new

pub record IsNew (name : List ℕ) (incoming : Incoming) (new : Kept) : Type 0 where
  pub entry : entry_of new ≡ new_entry name incoming.digest incoming.release
  pub sets : sets_of new ≡ record { release = incoming.set; boot = None }
  pub valid : IsValidContainer new.container
  pub release : IsReleaseOf new

-- a store of these containers
abbrev pub view_of : (dir : List ℕ) → List Kept → StoreView
view_of dir kept = record { dir = dir; entries = entries_kept kept; sets = all_sets_of kept }

-- what comes of an update
abbrev pub outcome_of : List Kept → (name : List ℕ) → Incoming → State × Reply
outcome_of kept name incoming =
    release_step (state_of (entries_kept kept)) name incoming.digest incoming.release
    (get (state_of (entries_kept kept)) name)

-- what is written: the slots of a container, and the list of all
pub record AreWrites (dir : List ℕ) (kept : List Kept) (one : Kept) (writes : Writes) : Type 0 where
  pub slots : (is : IsReleaseOf one) → AreSlotFiles dir (entry_of one) one.release is.parts writes.slots.items
  pub beside : string_bytes writes.beside ≡ path dir [] NewRecords
  pub list : string_bytes writes.list ≡ path dir [] Records
  pub bytes : writes.bytes.items ≡ records_bytes (map recorded (entries_kept kept))
