-- Which file of a device directory is at fault first: `records`, and then container by container the files of its named
-- slots, in one order. A file that isn't there is found before the files of its slot are checked together.
use Rattle.std.specs.Prelude.{◌≡◌, ◌≢◌, ℕ, ◌*◌, ◌<◌, ◌≤◌, ◌⊎◌, ⊤, List, [], ◌∷◌, length, slice_index, All, IsTrue}
use Rattle.std.specs.Prelude.{Some, IsSome, Result, Ok, Err}
use Rattle.acfg_base.specs.Release.{is_read_write}
use Rattle.acfg_device.specs.Panel.{Files}
use Rattle.acfg_images.specs.declared.fault.FileType.{FileType}
use Rattle.acfg_images.specs.declared.fault.FileType.TheVariants as image
use Rattle.acfg_images.specs.declared.fault.ImageFault.{ImageFault}
use Rattle.acfg_images.specs.declared.fault.ImageFault.TheVariants as fault
use Rattle.acfg_images.specs.declared.purpose.Use.{Use}
use Rattle.acfg_images.specs.declared.purpose.Use.TheVariants as purpose
use Rattle.acfg_images.specs.Faults.{Opened, checked, parts_in}
use Rattle.acfg_images.specs.Files as four
use Rattle.acfg_images.specs.Set.{Listed, listing}
use Rattle.acfg_store.specs.declared.locals.LocalOverride.{LocalOverride}
use Rattle.acfg_store.specs.declared.names.OverrideFile.{OverrideFile}
use Rattle.acfg_store.specs.declared.names.OverrideFile.TheVariants as override
use Rattle.acfg_store.specs.declared.names.Part.{Part}
use Rattle.acfg_store.specs.declared.names.Part.TheVariants.{Records, NewRecords, Release, Override, Pointer}
use Rattle.acfg_store.specs.declared.names.Part.TheVariants.{NewPointer, Boot}
use Rattle.acfg_store.specs.declared.names.Slot.{Slot}
use Rattle.acfg_store.specs.declared.names.Slot.TheVariants.{Zero, One}
use Rattle.acfg_store.specs.declared.records.Recorded.{Recorded}
use Rattle.acfg_store.specs.Names.{path}
use Rattle.acfg_store.specs.Records.{SpellsLocals, SpellsRecords, bit, pointer_bytes}
use Rattle.acfg_store.specs.Stands.{AreFiles, local_at}
use Rattle.acfg_views.specs.Fields.{IsBytes}
use Rattle.acfg_views.specs.Layout.{IsListFile, ListParts, flag_info_type, flag_val_type}
use Rattle.sha2.specs.Sha256.{sha256}

-- the first of a list that isn't sound
abbrev pub IsFirst : {X : Type 0} → (X → Type 0) → List X → X → Type 0
IsFirst IsSound [] one = ⊥
IsFirst IsSound (x ∷ xs) one = ((one ≡ x) × (IsSound x → ⊥)) ⊎ (IsSound x × IsFirst IsSound xs one)

-- ---- the files of a release or of a boot copy

-- which file a fault of four files is found in; what two of them disagree on is found in package.map. The last line is
-- no rule: want of memory is no fault of files.
abbrev pub blamed : ImageFault → FileType
blamed (fault.TooLarge size) = image.PackageMap
blamed (fault.View file why) = file
blamed (fault.Node file at) = file
blamed (fault.Twice file at) = file
blamed (fault.Chain file at) = file
blamed (fault.Bits file index) = file
blamed (fault.Disagree on a b) = image.PackageMap
blamed fault.OutOfMemory = image.PackageMap

-- where this is the file in which a set is found that isn't the one that is meant, it is the one
pub record IsMeantIn (file : FileType) (Meant : Type 0) : Type 0 where
  pub meant : file ≡ image.PackageMap → Meant

-- what a check finds isn't in this file; a set that isn't the one that is meant is found in package.map
abbrev pub IsElsewhere : FileType → (Opened → Type 0) → Result Opened ImageFault → Type 0
IsElsewhere file IsMeant (Ok opened) = IsMeantIn file (IsMeant opened)
IsElsewhere file IsMeant (Err fault) = blamed fault ≢ file

-- the file is there; and where the others of its slot are there too, nothing that their check finds is in this one
pub record IsSoundIn (files : Files) (name_of : FileType → List ℕ) (use_of : Use)
    (IsMeant : four.Files → Opened → Type 0) (file : FileType) : Type 0 where
  pub there : IsSome (files (name_of file))
  pub clear : (set : four.Files) → AreFiles files name_of set → IsElsewhere file (IsMeant set) (checked use_of set)

-- ---- of an override slot, over the flags of the release

-- bytes are a file of one byte a flag, of the container, and each flag's byte is lawful
pub record AreBytesBy (file_type : ℕ) (bytes container : List ℕ) (IsLawful : Listed → ℕ → Type 0)
    (flags : List Listed) : Type 0 where
  pub parts : ListParts
  pub are : IsListFile file_type bytes parts
  pub container_is : parts.container ≡ container
  pub count : length parts.bytes ≡ length flags
  pub each : All (λ row. IsLawful row (slice_index parts.bytes row.index)) flags

-- the file is there, and is such a one
pub record HasBytes (files : Files) (name : List ℕ) (file_type : ℕ) (container : List ℕ)
    (IsLawful : Listed → ℕ → Type 0) (flags : List Listed) : Type 0 where
  pub bytes : List ℕ
  pub there : files name ≡ Some bytes
  pub hold : AreBytesBy file_type bytes container IsLawful flags

abbrev pub IsValue : Listed → ℕ → Type 0
IsValue row byte = byte ≤ 1

-- 2 where the flag is read-write, and then 1 more where it has a server override; without one its value is the
-- release's
pub record IsInfoOver (values : List ℕ) (row : Listed) (byte : ℕ) : Type 0 where
  pub lawful : (byte ≡ 2 * bit (is_read_write row.kind)) ⊎ (IsTrue (is_read_write row.kind) × (byte ≡ 3))
  pub value : (byte ≡ 3 → ⊥) → slice_index values row.index ≡ bit row.value

-- bytes list local overrides, of read-write flags
pub record AreLocalsBy (bytes : List ℕ) (flags : List Listed) : Type 0 where
  pub overrides : List LocalOverride
  pub spells : SpellsLocals bytes overrides
  pub indexes : All (λ row. row.index < length flags) overrides
  pub writable : All (λ row. IsSome (local_at overrides row.index) → IsTrue (is_read_write row.kind)) flags

-- the file is there, and lists such
pub record HasLocals (files : Files) (name : List ℕ) (flags : List Listed) : Type 0 where
  pub bytes : List ℕ
  pub there : files name ≡ Some bytes
  pub hold : AreLocalsBy bytes flags

-- ---- a container

-- a release is the container's, and has the digest that is listed
pub record IsItsRelease (row : Recorded) (set : four.Files) (opened : Opened) : Type 0 where
  pub name : opened.package_map.container ≡ row.name
  pub digest : row.digest ≡ sha256 (four.joined set)

module _ (files : Files) (dir : List ℕ) (row : Recorded) where
  abbrev pub release_name : FileType → List ℕ
  release_name file = path dir row.name (Release row.release file)

  abbrev pub override_path : OverrideFile → List ℕ
  override_path file = path dir row.name (Override row.overrides file)

  abbrev pub boot_name : Slot → FileType → List ℕ
  boot_name slot file = path dir row.name (Boot slot file)

  -- the release's files list these flags
  pub record ListsFlags (flags : List Listed) : Type 0 where
    pub set : four.Files
    pub opened : Opened
    pub stand : AreFiles files release_name set
    pub is_set : checked purpose.Release set ≡ Ok opened
    pub are : flags ≡ listing (parts_in opened)

  -- nothing is at fault in a part, where nothing is in those before it
  abbrev pub IsSound : Part → Type 0
  IsSound Records = ⊤
  IsSound NewRecords = ⊤
  IsSound (Release slot file) = IsSoundIn files release_name purpose.Release (IsItsRelease row) file
  IsSound (Override slot override.FlagVal) = (flags : List Listed) → ListsFlags flags
      → HasBytes files (override_path override.FlagVal) flag_val_type row.name IsValue flags
  IsSound (Override slot override.FlagInfo) = (flags : List Listed) → ListsFlags flags
      → (values : HasBytes files (override_path override.FlagVal) flag_val_type row.name IsValue flags)
      → HasBytes files (override_path override.FlagInfo) flag_info_type row.name (IsInfoOver values.hold.parts.bytes)
      flags
  IsSound (Override slot override.Local) = (flags : List Listed) → ListsFlags flags
      → HasLocals files (override_path override.Local) flags
  IsSound (Override slot override.Log) = ⊤
  IsSound Pointer = (bytes : List ℕ) → files (path dir row.name Pointer) ≡ Some bytes
      → (slot : Slot) × (bytes ≡ pointer_bytes slot)
  IsSound NewPointer = ⊤
  IsSound (Boot slot file) = files (path dir row.name Pointer) ≡ Some (pointer_bytes slot)
      → IsSoundIn files (boot_name slot) purpose.Copy (λ set opened. opened.package_map.container ≡ row.name) file

-- a container's parts in order: its release slot, its override slot, the pointer, and the boot slot
abbrev pub parts_of : Recorded → List Part
parts_of row =
    Release row.release image.PackageMap
    ∷ Release row.release image.FlagMap
    ∷ Release row.release image.FlagVal
    ∷ Release row.release image.FlagInfo
    ∷ Override row.overrides override.FlagVal
    ∷ Override row.overrides override.FlagInfo
    ∷ Override row.overrides override.Local
    ∷ Pointer
    ∷ Boot Zero image.PackageMap
    ∷ Boot Zero image.FlagMap
    ∷ Boot Zero image.FlagVal
    ∷ Boot Zero image.FlagInfo
    ∷ Boot One image.PackageMap
    ∷ Boot One image.FlagMap
    ∷ Boot One image.FlagVal
    ∷ Boot One image.FlagInfo
    ∷ []

-- nothing is at fault in a container
abbrev pub IsWhole : Files → List ℕ → Recorded → Type 0
IsWhole files dir row = All (IsSound files dir row) (parts_of row)

-- ---- the directory

-- what files hold are bytes
abbrev pub HoldBytes : Files → Type 0
HoldBytes files = (name held : List ℕ) → files name ≡ Some held → IsBytes held

-- the list of containers is there, and is none
pub record IsNoList (files : Files) (dir name : List ℕ) : Type 0 where
  pub bytes : List ℕ
  pub there : files (path dir [] Records) ≡ Some bytes
  pub none : (rows : List Recorded) → SpellsRecords bytes rows → ⊥
  pub name_is : name ≡ path dir [] Records

-- a part of a container is at fault, and nothing before it
pub record IsPartAtFault (files : Files) (dir name : List ℕ) : Type 0 where
  pub bytes : List ℕ
  pub there : files (path dir [] Records) ≡ Some bytes
  pub rows : List Recorded
  pub spells : SpellsRecords bytes rows
  pub row : Recorded
  pub first_row : IsFirst (IsWhole files dir) rows row
  pub part : Part
  pub first_part : IsFirst (IsSound files dir row) (parts_of row) part
  pub name_is : name ≡ path dir row.name part

-- the name is that of the first file at fault
abbrev pub IsDamaged : Files → List ℕ → List ℕ → Type 0
IsDamaged files dir name = IsNoList files dir name ⊎ IsPartAtFault files dir name
