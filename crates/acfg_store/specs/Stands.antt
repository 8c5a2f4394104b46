-- For which state the files of a device directory stand: container by container, by the slots that are named.
use Rattle.std.specs.Prelude.{◌≡◌, ℕ, ◌+◌, ◌*◌, ◌<◌, ◌⊎◌, ⊤, Bool, List, [], length, map, slice_index, find}
use Rattle.std.specs.Prelude.{All, Contains}
use Rattle.std.specs.Prelude.{Option, Some, None, IsSomeAnd, option_map, unwrap_or, ◌==◌}
use Rattle.std.specs.FinMap.{get, contains_key}
use Rattle.acfg_base.specs.Maps.{map_values}
use Rattle.acfg_base.specs.Places.{map_of}
use Rattle.acfg_base.specs.Release.{ReleaseMap, is_read_write}
use Rattle.acfg_device.specs.Panel.{Files}
use Rattle.acfg_images.specs.declared.fault.FileType.{FileType}
use Rattle.acfg_images.specs.declared.fault.FileType.TheVariants as image
use Rattle.acfg_images.specs.declared.purpose.Use.TheVariants as purpose
use Rattle.acfg_images.specs.Files as four
use Rattle.acfg_images.specs.Set.{Listed, listed_key, listing, IsSet, Notes}
use Rattle.acfg_model.specs.State.{BootMap, Container, IsValid, OverrideMap, State, name_cmp}
use Rattle.acfg_store.specs.declared.locals.LocalOverride.{LocalOverride}
use Rattle.acfg_store.specs.declared.names.OverrideFile.{OverrideFile}
use Rattle.acfg_store.specs.declared.names.OverrideFile.TheVariants as override
use Rattle.acfg_store.specs.declared.names.Part.{Part}
use Rattle.acfg_store.specs.declared.names.Part.TheVariants.{Records, NewRecords, Release, Override, Pointer}
use Rattle.acfg_store.specs.declared.names.Part.TheVariants.{NewPointer, Boot}
use Rattle.acfg_store.specs.declared.names.Slot.{Slot}
use Rattle.acfg_store.specs.declared.records.Recorded.{Recorded}
use Rattle.acfg_store.specs.Names.{path}
use Rattle.acfg_store.specs.Records.{AreRecords, SpellsLocals, bit, pointer_bytes, records_bytes}
use Rattle.acfg_views.specs.Layout.{IsListFile, ListParts, flag_info_type, flag_val_type}
use Rattle.sha2.specs.Sha256.{sha256}

-- how a container lies in a directory: its name, the slots that are named, and what it holds
pub record Entry : Type 0 where
  pub name : List ℕ
  pub release_slot : Slot
  pub override_slot : Slot
  pub boot_slot : Option Slot
  pub container : Container

abbrev pub entry_name : Entry → List ℕ
entry_name entry = entry.name

-- what `records` lists of it
abbrev pub recorded : Entry → Recorded
recorded entry = record {
  name = entry.name;
  release = entry.release_slot;
  overrides = entry.override_slot;
  digest = entry.container.digest;
}

-- the state that containers make
abbrev pub state_of : List Entry → State
state_of entries = map_of name_cmp entry_name entries (λ entry. entry.container)

-- ---- the release slot

-- four files of a slot, by their names, hold the files of a set
pub record AreFiles (files : Files) (name_of : FileType → List ℕ) (set : four.Files) : Type 0 where
  pub package_map : files (name_of image.PackageMap) ≡ Some set.package_map
  pub flag_map : files (name_of image.FlagMap) ≡ Some set.flag_map
  pub flag_val : files (name_of image.FlagVal) ≡ Some set.flag_val
  pub flag_info : files (name_of image.FlagInfo) ≡ Some set.flag_info

-- they are a set of the container and its release, with the digest that is kept
pub record HoldsRelease (files : Files) (dir : List ℕ) (entry : Entry) : Type 0 where
  pub set : four.Files
  pub notes : Notes
  pub stand : AreFiles files (λ file. path dir entry.name (Release entry.release_slot file)) set
  pub is_set : IsSet set purpose.Release entry.name entry.container.release notes
  pub digest : entry.container.digest ≡ sha256 (four.joined set)

-- ---- the override slot, over the flags that the release's files list

-- a flag's value: the server's override, else the release's
abbrev pub server_value : OverrideMap → Listed → ℕ
server_value server row = bit (unwrap_or (get server (listed_key row)) row.value)

-- a flag's info byte: 2 where it is read-write, and 1 where it has a server override
abbrev pub server_info : OverrideMap → Listed → ℕ
server_info server row = 2 * bit (is_read_write row.kind) + bit (contains_key server (listed_key row))

-- bytes are a file of one byte a flag, of the container, and each flag's byte is this
pub record AreBytesOf (file_type : ℕ) (bytes name : List ℕ) (byte_of : Listed → ℕ) (flags : List Listed) : Type 0 where
  pub parts : ListParts
  pub are : IsListFile file_type bytes parts
  pub container : parts.container ≡ name
  pub count : length parts.bytes ≡ length flags
  pub each : All (λ row. slice_index parts.bytes row.index ≡ byte_of row) flags

-- what a list of local overrides has at an index
abbrev pub local_at : List LocalOverride → ℕ → Option Bool
local_at overrides index = option_map (λ row. row.value) (find (λ row. row.index == index) overrides)

-- bytes list the local overrides, each at its flag's index
pub record AreLocalsOf (bytes : List ℕ) (local : OverrideMap) (flags : List Listed) : Type 0 where
  pub overrides : List LocalOverride
  pub spells : SpellsLocals bytes overrides
  pub indexes : All (λ row. row.index < length flags) overrides
  pub each : All (λ row. local_at overrides row.index ≡ get local (listed_key row)) flags

pub record HoldsOverrides (files : Files) (dir : List ℕ) (entry : Entry) (flags : List Listed) : Type 0 where
  pub values : List ℕ
  pub infos : List ℕ
  pub locals : List ℕ
  pub values_stand : files (path dir entry.name (Override entry.override_slot override.FlagVal)) ≡ Some values
  pub infos_stand : files (path dir entry.name (Override entry.override_slot override.FlagInfo)) ≡ Some infos
  pub locals_stand : files (path dir entry.name (Override entry.override_slot override.Local)) ≡ Some locals
  pub values_are : AreBytesOf flag_val_type values entry.name (server_value entry.container.server) flags
  pub infos_are : AreBytesOf flag_info_type infos entry.name (server_info entry.container.server) flags
  pub locals_are : AreLocalsOf locals entry.container.local flags

-- ---- the boot copy

-- the release that a boot copy has, and its notes
abbrev pub boot_release : BootMap → ReleaseMap
boot_release boot = map_values (λ key flag. (flag.kind, flag.value)) boot

abbrev pub boot_notes : BootMap → Notes
boot_notes boot = map_values (λ key flag. (flag.server, flag.local)) boot

-- the pointer names a slot whose files are a set of the container, of this boot copy
pub record HoldsBoot (files : Files) (dir name : List ℕ) (slot : Slot) (boot : BootMap) : Type 0 where
  pub set : four.Files
  pub pointer : files (path dir name Pointer) ≡ Some (pointer_bytes slot)
  pub stand : AreFiles files (λ file. path dir name (Boot slot file)) set
  pub is_set : IsSet set purpose.Copy name (boot_release boot) (boot_notes boot)

-- there is no pointer exactly where there is no boot copy
abbrev pub Booted : Files → (dir name : List ℕ) → Option Slot → Option BootMap → Type 0
Booted files dir name None None = files (path dir name Pointer) ≡ None
Booted files dir name None (Some boot) = ⊥
Booted files dir name (Some slot) None = ⊥
Booted files dir name (Some slot) (Some boot) = HoldsBoot files dir name slot boot

-- ---- the directory

-- the files of a container's named slots hold it
pub record Holds (files : Files) (dir : List ℕ) (entry : Entry) : Type 0 where
  pub release : HoldsRelease files dir entry
  pub overrides : HoldsOverrides files dir entry (listing release.is_set.parts)
  pub boot : Booted files dir entry.name entry.boot_slot entry.container.boot

-- `records` lists these containers; where there are none, it may be missing
abbrev pub AreListed : Files → List ℕ → List Entry → Type 0
AreListed files dir entries =
    (files (path dir [] Records) ≡ Some (records_bytes (map recorded entries)))
    ⊎ ((entries ≡ []) × (files (path dir [] Records) ≡ None))

-- so the containers lie in the directory
pub record Lies (files : Files) (dir : List ℕ) (entries : List Entry) : Type 0 where
  pub listed : AreListed files dir entries
  pub lawful : AreRecords (map recorded entries)
  pub each : All (Holds files dir) entries

-- The files of the directory stand for a state: a valid one, whose containers lie there. All other files are free.
pub record Stands (files : Files) (dir : List ℕ) (state : State) : Type 0 where
  pub entries : List Entry
  pub state_is : state ≡ state_of entries
  pub valid : IsValid state
  pub lies : Lies files dir entries

-- ---- which files are used

-- of an override slot all files but the log
abbrev pub IsRead : OverrideFile → Type 0
IsRead override.FlagVal = ⊤
IsRead override.FlagInfo = ⊤
IsRead override.Local = ⊤
IsRead override.Log = ⊥

-- the parts of a container that are used: its named slots, and the pointer, also where it isn't there
abbrev pub Uses : Entry → Part → Type 0
Uses entry Records = ⊥
Uses entry NewRecords = ⊥
Uses entry (Release slot file) = slot ≡ entry.release_slot
Uses entry (Override slot file) = (slot ≡ entry.override_slot) × IsRead file
Uses entry Pointer = ⊤
Uses entry NewPointer = ⊥
Uses entry (Boot slot file) = IsSomeAnd entry.boot_slot (λ named. slot ≡ named)

-- the name is that of a used part of a container
pub record IsPartOf (dir : List ℕ) (entries : List Entry) (name : List ℕ) : Type 0 where
  pub entry : Entry
  pub among : Contains entries entry
  pub part : Part
  pub uses : Uses entry part
  pub spelled : name ≡ path dir entry.name part

-- the name is that of a file that the directory uses; what all others hold counts for nothing
abbrev pub IsUsed : List ℕ → List Entry → List ℕ → Type 0
IsUsed dir entries name = (name ≡ path dir [] Records) ⊎ IsPartOf dir entries name
