-- Private: what is found of the containers of a list. No public clause cites it.
use Rattle.std.specs.Prelude.{◌≡◌, ⊤, ℕ, List, map, All, string_bytes}
use Rattle.acfg_device.specs.Panel.{Files}
use Rattle.acfg_model.specs.State.{IsValidContainer}
use Rattle.acfg_store.specs.declared.containers.Kept.{Kept}
use Rattle.acfg_store.specs.declared.names.Part.{Part}
use Rattle.acfg_store.specs.declared.records.Recorded.{Recorded}
use Rattle.acfg_store.specs.declared.store_fault.StoreFault.{StoreFault}
use Rattle.acfg_store.specs.declared.store_fault.StoreFault.TheVariants.{Damaged, Device, OutOfMemory}
use Rattle.acfg_store.specs.Damage.{IsFirst, IsWhole}
use Rattle.acfg_store.specs.Kept.{IsCopied, IsFirstPart, IsIndexed, entry_of, sets_of}
use Rattle.acfg_store.specs.Names.{path}
use Rattle.acfg_store.specs.Records.{AreRecords}
use Rattle.acfg_store.specs.Sets.{AreSetsOf, Sets}
use Rattle.acfg_store.specs.Stands.{Entry, recorded}

-- the name is that of the first part of the container at fault
pub record IsPartOfRow (files : Files) (dir : List ℕ) (row : Recorded) (name : List ℕ) : Type 0 where
  pub part : Part
  pub first : IsFirstPart row files dir part
  pub name_is : name ≡ path dir row.name part

-- a fault tells the first part of the container at fault
abbrev pub TellsOfRow : Files → List ℕ → Recorded → StoreFault → Type 0
TellsOfRow files dir row (Damaged name) = IsPartOfRow files dir row (string_bytes name)
TellsOfRow files dir row Device = ⊤
TellsOfRow files dir row OutOfMemory = ⊤

-- the name is that of the first part at fault of the first container at fault
pub record IsPartOfRows (files : Files) (dir : List ℕ) (rows : List Recorded) (name : List ℕ) : Type 0 where
  pub row : Recorded
  pub first : IsFirst (IsWhole files dir) rows row
  pub at : IsPartOfRow files dir row name

abbrev pub TellsOfRows : Files → List ℕ → List Recorded → StoreFault → Type 0
TellsOfRows files dir rows (Damaged name) = IsPartOfRows files dir rows (string_bytes name)
TellsOfRows files dir rows Device = ⊤
TellsOfRows files dir rows OutOfMemory = ⊤

abbrev pub entries_of : List Kept → List Entry
entries_of kept = map entry_of kept

abbrev pub all_sets_of : List Kept → List Sets
all_sets_of kept = map sets_of kept

-- the files that are kept of a container stand in its named slots
abbrev pub KeepsFiles : Files → List ℕ → Kept → Type 0
KeepsFiles files dir kept = AreSetsOf files dir (entry_of kept) (sets_of kept)

-- the containers are those of the list, and each is valid, with the index of each flag and the files of its boot copy
pub record AreOfRows (rows : List Recorded) (kept : List Kept) : Type 0 where
  pub listed : map recorded (entries_of kept) ≡ rows
  pub valid : All (λ entry. IsValidContainer entry.container) (entries_of kept)
  pub indexed : All IsIndexed kept
  pub copied : All IsCopied kept

-- containers that a store keeps: lawfully listed, valid, and with the index of each flag and the files of the boot copy
pub record AreKept (kept : List Kept) : Type 0 where
  pub listed : AreRecords (map recorded (entries_of kept))
  pub valid : All (λ entry. IsValidContainer entry.container) (entries_of kept)
  pub indexed : All IsIndexed kept
  pub copied : All IsCopied kept
