-- What no fault has to do with sets: files in which none stands are a set, and hold one release and its notes.
use Rattle.std.specs.Prelude.{◌≡◌, ℕ, List, ◌⊎◌, Result, Ok, Err}
use Rattle.acfg_base.specs.Release.{ReleaseMap}
use Rattle.acfg_views.specs.Fields.{IsBytes}
use Rattle.acfg_images.specs.declared.purpose.Use.{Use}
use Rattle.acfg_images.specs.declared.fault.ImageFault.{ImageFault}
use Rattle.acfg_images.specs.declared.fault.ImageFault.TheVariants.{OutOfMemory}
use Rattle.acfg_images.specs.Files.{Files}
use Rattle.acfg_images.specs.Set.{Notes, IsSet, release_in, notes_in}
use Rattle.acfg_images.specs.Faults.{Opened, checked, parts_in}

-- the four files are bytes
pub record AreBytes (files : Files) : Type 0 where
  pub package_map : IsBytes files.package_map
  pub flag_map : IsBytes files.flag_map
  pub flag_val : IsBytes files.flag_val
  pub flag_info : IsBytes files.flag_info

-- the release and the notes that four open files hold
abbrev pub release_of : Opened → ReleaseMap
release_of opened = release_in (parts_in opened)

abbrev pub notes_of : Opened → Notes
notes_of opened = notes_in (parts_in opened)

-- the files are a set, and what was opened says of which container, release and notes: of these and no others
pub record IsOneSet (files : Files) (purpose : Use) (opened : Opened) : Type 0 where
  pub is_set : IsSet files purpose opened.package_map.container (release_of opened) (notes_of opened)
  pub container : {name : List ℕ} {release : ReleaseMap} {notes : Notes} → IsSet files purpose name release notes
      → name ≡ opened.package_map.container
  pub release : {name : List ℕ} {release : ReleaseMap} {notes : Notes} → IsSet files purpose name release notes
      → release ≡ release_of opened
  pub notes : {name : List ℕ} {release : ReleaseMap} {notes : Notes} → IsSet files purpose name release notes
      → notes ≡ notes_of opened

-- the files are a set of no container, release and notes
abbrev pub IsNoSet : Files → Use → Type 0
IsNoSet files purpose =
    (name : List ℕ) (release : ReleaseMap) (notes : Notes) → IsSet files purpose name release notes → ⊥

-- what a check answers: a set, or a fault of files that are none. Want of memory says nothing.
abbrev pub TellsSets : Use → Files → Result Opened ImageFault → Type 0
TellsSets purpose files (Ok opened) = IsOneSet files purpose opened
TellsSets purpose files (Err fault) = (fault ≡ OutOfMemory) ⊎ IsNoSet files purpose

-- files in which no fault stands are a set
abbrev pub FaultlessAreSets : Type 0
FaultlessAreSets =
    (purpose : Use) (files : Files) (opened : Opened) → AreBytes files → checked purpose files ≡ Ok opened
    → IsOneSet files purpose opened

-- and no fault stands in a set
abbrev pub SetsAreFaultless : Type 0
SetsAreFaultless = (purpose : Use) (files : Files) (name : List ℕ) (release : ReleaseMap) (notes : Notes)
    → IsSet files purpose name release notes → (opened : Opened) × (checked purpose files ≡ Ok opened)
