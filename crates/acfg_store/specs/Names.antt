-- The names of a device directory's files.
use Rattle.std.specs.Prelude.{◌≡◌, ℕ, List, [], ◌∷◌, ◌++◌, codes}
use Rattle.acfg_base.specs.Names.{IsContainer}
use Rattle.acfg_images.specs.declared.fault.FileType.{FileType}
use Rattle.acfg_images.specs.declared.fault.FileType.TheVariants as image
use Rattle.acfg_store.specs.declared.names.OverrideFile.{OverrideFile}
use Rattle.acfg_store.specs.declared.names.OverrideFile.TheVariants as override
use Rattle.acfg_store.specs.declared.names.Part.{Part}
use Rattle.acfg_store.specs.declared.names.Part.TheVariants.{Records, NewRecords, Release, Override, Pointer}
use Rattle.acfg_store.specs.declared.names.Part.TheVariants.{NewPointer, Boot}
use Rattle.acfg_store.specs.declared.names.Slot.{Slot}
use Rattle.acfg_store.specs.declared.names.Slot.TheVariants.{Zero, One}

-- `/`
abbrev pub slash : ℕ
slash = 47

-- the number of a slot
abbrev pub slot_number : Slot → ℕ
slot_number Zero = 0
slot_number One = 1

-- the number of a slot as a digit
abbrev pub slot_digit : Slot → List ℕ
slot_digit Zero = codes "0"
slot_digit One = codes "1"

-- the name of a storage file within its slot
abbrev pub image_name : FileType → List ℕ
image_name image.PackageMap = codes "package.map"
image_name image.FlagMap = codes "flag.map"
image_name image.FlagVal = codes "flag.val"
image_name image.FlagInfo = codes "flag.info"

-- the name of a file within its override slot
abbrev pub override_name : OverrideFile → List ℕ
override_name override.FlagVal = codes "flag.val"
override_name override.FlagInfo = codes "flag.info"
override_name override.Local = codes "local"
override_name override.Log = codes "log"

-- what stands behind the container's name: a letter for the kind of slot, its number, and the file's name
abbrev pub release_ending : Slot → FileType → List ℕ
release_ending slot file = codes "-r" ++ slot_digit slot ++ codes "-" ++ image_name file

abbrev pub override_ending : Slot → OverrideFile → List ℕ
override_ending slot file = codes "-o" ++ slot_digit slot ++ codes "-" ++ override_name file

abbrev pub boot_ending : Slot → FileType → List ℕ
boot_ending slot file = codes "-b" ++ slot_digit slot ++ codes "-" ++ image_name file

abbrev pub ending : Part → List ℕ
ending Records = codes "records"
ending NewRecords = codes "records.new"
ending (Release slot file) = release_ending slot file
ending (Override slot file) = override_ending slot file
ending Pointer = codes "-boot"
ending NewPointer = codes "-boot.new"
ending (Boot slot file) = boot_ending slot file

-- the name of a file: the directory, a slash, the container and the part's ending
unfoldable pub path : (dir container : List ℕ) → Part → List ℕ
path dir container part = dir ++ slash ∷ (container ++ ending part)

-- the two lists are of no container, and every other part is of a lawful one
abbrev pub IsContainerOf : Part → List ℕ → Type 0
IsContainerOf Records container = container ≡ []
IsContainerOf NewRecords container = container ≡ []
IsContainerOf (Release slot file) container = IsContainer container
IsContainerOf (Override slot file) container = IsContainer container
IsContainerOf Pointer container = IsContainer container
IsContainerOf NewPointer container = IsContainer container
IsContainerOf (Boot slot file) container = IsContainer container

-- the name is one of the directory's
pub record IsOfDirectory (dir name : List ℕ) : Type 0 where
  pub container : List ℕ
  pub part : Part
  pub lawful : IsContainerOf part container
  pub spelled : name ≡ path dir container part

-- the name of a storage file that an update reads from a folder
unfoldable pub source_path : List ℕ → FileType → List ℕ
source_path folder file = folder ++ slash ∷ image_name file
