-- Private: what is found of the files of a boot slot. No public clause cites it.
use Rattle.std.specs.Prelude.{◌≡◌, ◌⊎◌, ℕ, List, map}
use Rattle.acfg_base.specs.Release.{HasLawfulKeys}
use Rattle.acfg_images.specs.declared.fault.FileType.{FileType}
use Rattle.acfg_images.specs.declared.purpose.Use.TheVariants as purpose
use Rattle.acfg_images.specs.Faults.{Opened, checked, parts_in}
use Rattle.acfg_images.specs.Files as four
use Rattle.acfg_images.specs.Laws.{release_of}
use Rattle.acfg_model.specs.declared.views.Booted.{Booted}
use Rattle.acfg_store.specs.declared.placed.Placed.{Placed}
use Rattle.acfg_store.specs.declared.sets.SlotFiles.{SlotFiles}
use Rattle.acfg_store.specs.Damage.{IsFirst}
use Rattle.acfg_store.specs.Judged.{IsAllOf, IsBlamed, IsMeantSet, IsThere, four_types}
use Rattle.acfg_store.specs.Placed.{AreFlagsOf, boot_row}

-- the set is of the container
abbrev pub IsOfContainer : List ℕ → Opened → Type 0
IsOfContainer container opened = opened.package_map.container ≡ container

-- the files are a boot copy of the container, with these flags
pub record IsCopyOf (container : List ℕ) (set : four.Files) (copy : List Booted) : Type 0 where
  pub opened : Opened
  pub is : IsMeantSet purpose.Copy (IsOfContainer container) set opened
  pub flags : List Placed
  pub are : AreFlagsOf (parts_in opened) flags
  pub keys : HasLawfulKeys (release_of opened)
  pub copy_is : copy ≡ map boot_row flags

abbrev pub IsBlamedCopy : List ℕ → four.Files → FileType → Type 0
IsBlamedCopy container set = IsBlamed (IsOfContainer container) (checked purpose.Copy set)

-- the file that a boot slot's set is at fault in
pub record IsFaultOfSet (container : List ℕ) (read : SlotFiles) (file : FileType) : Type 0 where
  pub set : four.Files
  pub all : IsAllOf read set
  pub blamed : IsBlamedCopy container set file

-- the first file that isn't there, or else the one in which a fault is found
abbrev pub IsCopyAt : List ℕ → SlotFiles → FileType → Type 0
IsCopyAt container read file = IsFirst (IsThere read) four_types file ⊎ IsFaultOfSet container read file
