-- Private: what is found of files that were read. No public clause cites it.
use Rattle.std.specs.Prelude.{◌≡◌, ℕ, ⊤, List, [], ◌∷◌, Option, Some, IsSome, option_map, Result, Ok, Err}
use Rattle.acfg_device.specs.Panel.{Files}
use Rattle.acfg_images.specs.declared.fault.FileType.{FileType}
use Rattle.acfg_images.specs.declared.fault.FileType.TheVariants.{PackageMap, FlagMap, FlagVal, FlagInfo}
use Rattle.acfg_images.specs.declared.fault.ImageFault.{ImageFault}
use Rattle.acfg_images.specs.declared.fault.ImageFault.TheVariants as fault
use Rattle.acfg_images.specs.declared.purpose.Use.{Use}
use Rattle.acfg_images.specs.Faults.{Opened, checked, parts_in}
use Rattle.acfg_images.specs.Files as four
use Rattle.acfg_images.specs.Set.{IsSetOf}
use Rattle.acfg_store.specs.declared.faults.Fault.{Fault}
use Rattle.acfg_store.specs.declared.faults.Fault.TheVariants.{At, OutOfMemory}
use Rattle.acfg_store.specs.declared.sets.SlotFiles.{SlotFiles}
use Rattle.acfg_store.specs.Damage.{IsElsewhere}

-- a fault tells what is at fault; want of memory says nothing
abbrev pub Blames : {Y : Type 0} → (Y → Type 0) → Fault Y → Type 0
Blames bad (At y) = bad y
Blames bad OutOfMemory = ⊤

-- an answer is a good one, or tells what is at fault
abbrev pub Judges : {X Y : Type 0} → (X → Type 0) → (Y → Type 0) → Result X (Fault Y) → Type 0
Judges good bad (Ok x) = good x
Judges good bad (Err fault) = Blames bad fault

-- a fault in a thing as one in what it is a part of
abbrev pub fault_in : {X Y : Type 0} → (X → Y) → Fault X → Fault Y
fault_in part (At x) = At (part x)
fault_in part OutOfMemory = OutOfMemory

-- ---- the four files of a slot

-- the types of the four files, in order
abbrev pub four_types : List FileType
four_types = PackageMap ∷ FlagMap ∷ FlagVal ∷ FlagInfo ∷ []

-- what was read of each file
abbrev pub read_of : SlotFiles → FileType → Option (List ℕ)
read_of read PackageMap = option_map (λ bytes. bytes.items) read.package_map
read_of read FlagMap = option_map (λ bytes. bytes.items) read.flag_map
read_of read FlagVal = option_map (λ bytes. bytes.items) read.flag_val
read_of read FlagInfo = option_map (λ bytes. bytes.items) read.flag_info

abbrev pub IsThere : SlotFiles → FileType → Type 0
IsThere read file = IsSome (read_of read file)

-- all four were there
pub record IsAllOf (read : SlotFiles) (set : four.Files) : Type 0 where
  pub package_map : read_of read PackageMap ≡ Some set.package_map
  pub flag_map : read_of read FlagMap ≡ Some set.flag_map
  pub flag_val : read_of read FlagVal ≡ Some set.flag_val
  pub flag_info : read_of read FlagInfo ≡ Some set.flag_info

-- the four files were read under these names
pub record AreReadAs (files : Files) (name_of : FileType → List ℕ) (read : SlotFiles) : Type 0 where
  pub package_map : read_of read PackageMap ≡ files (name_of PackageMap)
  pub flag_map : read_of read FlagMap ≡ files (name_of FlagMap)
  pub flag_val : read_of read FlagVal ≡ files (name_of FlagVal)
  pub flag_info : read_of read FlagInfo ≡ files (name_of FlagInfo)

-- what a check finds is in this file, and in no other
pub record IsBlamed (IsMeant : Opened → Type 0) (result : Result Opened ImageFault) (file : FileType) : Type 0 where
  pub here : IsElsewhere file IsMeant result → ⊥
  pub alone : (other : FileType) → (other ≡ file → ⊥) → IsElsewhere other IsMeant result

-- the files are a set, and the one that is meant
pub record IsMeantSet (use_of : Use) (IsMeant : Opened → Type 0) (set : four.Files) (opened : Opened) : Type 0 where
  pub passes : checked use_of set ≡ Ok opened
  pub is_set : IsSetOf set use_of (parts_in opened)
  pub meant : IsMeant opened

abbrev pub JudgesSet : Use → (Opened → Type 0) → four.Files → Result Opened (Fault FileType) → Type 0
JudgesSet use_of IsMeant set = Judges (IsMeantSet use_of IsMeant set) (IsBlamed IsMeant (checked use_of set))

-- what a check's fault makes at fault
abbrev pub fault_of : ImageFault → Fault FileType
fault_of (fault.TooLarge size) = At PackageMap
fault_of (fault.View file why) = At file
fault_of (fault.Node file at) = At file
fault_of (fault.Twice file at) = At file
fault_of (fault.Chain file at) = At file
fault_of (fault.Bits file index) = At file
fault_of (fault.Disagree on a b) = At PackageMap
fault_of fault.OutOfMemory = OutOfMemory
