-- A store: its directory, how its containers lie there, and which files it keeps of them.
use Rattle.std.specs.Prelude.{◌≡◌, ⊤, ℕ, List, [], Result, Ok, Err, string_bytes}
use Rattle.acfg_device.specs.Disk.{Disk}
use Rattle.acfg_device.specs.Left.{IsSyncedAt}
use Rattle.acfg_device.specs.Panel.{Files}
use Rattle.acfg_store.specs.declared.store_fault.StoreFault.{StoreFault}
use Rattle.acfg_store.specs.declared.store_fault.StoreFault.TheVariants.{Damaged, Device, OutOfMemory}
use Rattle.acfg_store.specs.Damage.{IsDamaged}
use Rattle.acfg_store.specs.Sets.{Sets}
use Rattle.acfg_store.specs.Stands.{Entry}

-- what contracts see of a store
pub record StoreView : Type 0 where
  pub dir : List ℕ
  pub entries : List Entry
  pub sets : List Sets

-- what holds where an answer is given: a store, or the file at fault
abbrev pub OnAnswer : {X : Type 0} → Result X StoreFault → Type 0 → Type 0
OnAnswer (Ok store) P = P
OnAnswer (Err (Damaged name)) P = P
OnAnswer (Err Device) P = ⊤
OnAnswer (Err OutOfMemory) P = ⊤

-- a file and all names are on the disk, so that no cut changes them
pub record IsDurable (disk : Disk) (name : List ℕ) : Type 0 where
  pub names : disk.pending ≡ []
  pub file : IsSyncedAt disk name

-- a fault tells the first file at fault
abbrev pub TellsDamage : Files → List ℕ → StoreFault → Type 0
TellsDamage files dir (Damaged name) = IsDamaged files dir (string_bytes name)
TellsDamage files dir Device = ⊤
TellsDamage files dir OutOfMemory = ⊤
