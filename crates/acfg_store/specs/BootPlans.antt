-- Private: what is written of one container's boot copy, by a boot or by a change that is for now too, and how the
-- container lies behind it. No public clause cites it.
use Rattle.std.specs.Prelude.{◌≡◌, ℕ, List, [], ◌∷◌, slice_index_or, slice_set, string_bytes}
use Rattle.std.specs.Prelude.{Option, Some, None, option_map}
use Rattle.acfg_base.specs.Release.{Key}
use Rattle.acfg_device.specs.Panel.{Files}
use Rattle.acfg_commit.specs.declared.several.NewFile.{NewFile}
use Rattle.acfg_images.specs.declared.fault.FileType.TheVariants as image
use Rattle.acfg_images.specs.declared.purpose.Use.TheVariants as purpose
use Rattle.acfg_images.specs.Files as four
use Rattle.acfg_images.specs.Set.{IsSetOf, SetParts}
use Rattle.acfg_model.specs.State.{BootMap, IsValidContainer}
use Rattle.acfg_model.specs.Step.{boot_map, booted, renewed}
use Rattle.acfg_model.specs.Views.{boot_of}
use Rattle.acfg_store.specs.Commits.{IsEitherState, LeavesState}
use Rattle.acfg_store.specs.declared.booting.BootPlan.{BootPlan}
use Rattle.acfg_store.specs.declared.booting.CopyPlan.{CopyPlan}
use Rattle.acfg_store.specs.declared.containers.BootSlot.{BootSlot}
use Rattle.acfg_store.specs.declared.containers.Kept.{Kept}
use Rattle.acfg_store.specs.declared.names.Part.TheVariants.{Boot, NewPointer, Pointer}
use Rattle.acfg_store.specs.declared.names.Slot.{Slot}
use Rattle.acfg_store.specs.declared.names.Slot.TheVariants.{Zero}
use Rattle.acfg_store.specs.Names.{path}
use Rattle.acfg_store.specs.Picked.{IsCopyFor}
use Rattle.acfg_store.specs.Records.{pointer_bytes}
use Rattle.acfg_store.specs.Renewing.{IsCopyWith, renewed_boot}
use Rattle.acfg_store.specs.Stands.{Entry}
use Rattle.acfg_store.specs.Store.{StoreView}
use Rattle.acfg_store.specs.Turned.{other_slot}

-- the slot to which a boot writes: the one that isn't named, or the first, where none is
abbrev pub spare_slot : Option Slot → Slot
spare_slot None = Zero
spare_slot (Some slot) = other_slot slot

-- how a container lies with a boot copy in that slot
abbrev pub with_copy : Entry → BootMap → Entry
with_copy entry boot = record entry {
  boot_slot = Some (spare_slot entry.boot_slot);
  container = record entry.container { boot = Some boot };
}

-- behind a boot
abbrev pub booted_entry : Entry → Entry
booted_entry entry =
    record entry { boot_slot = Some (spare_slot entry.boot_slot); container = booted entry.container }

-- and where one flag is anew in its boot copy
abbrev pub renewed_entry : Entry → Key → Entry
renewed_entry entry key =
    record entry { boot_slot = Some (spare_slot entry.boot_slot); container = renewed entry.container key }

-- a file of this name with these bytes
pub record IsFile (name bytes : List ℕ) (file : NewFile) : Type 0 where
  pub named : string_bytes file.name ≡ name
  pub bytes_are : file.bytes.items ≡ bytes

-- the files of a boot slot
pub record AreBootFiles (dir name : List ℕ) (slot : Slot) (set : four.Files) (files : List NewFile) : Type 0 where
  pub package_map : NewFile
  pub flag_map : NewFile
  pub values : NewFile
  pub infos : NewFile
  pub are : files ≡ package_map ∷ flag_map ∷ values ∷ infos ∷ []
  pub package_map_is : IsFile (path dir name (Boot slot image.PackageMap)) set.package_map package_map
  pub flag_map_is : IsFile (path dir name (Boot slot image.FlagMap)) set.flag_map flag_map
  pub values_are : IsFile (path dir name (Boot slot image.FlagVal)) set.flag_val values
  pub infos_are : IsFile (path dir name (Boot slot image.FlagInfo)) set.flag_info infos

-- the boot slot of a container that isn't named, with these files, and the pointer to it
pub record IsCopyPlan (dir name : List ℕ) (named : Option Slot) (plan : CopyPlan) : Type 0 where
  pub slot : plan.boot.slot ≡ spare_slot named
  pub files : AreBootFiles dir name plan.boot.slot plan.boot.set plan.files.items
  pub beside : string_bytes plan.beside ≡ path dir name NewPointer
  pub pointer : string_bytes plan.pointer ≡ path dir name Pointer
  pub bytes : plan.bytes.items ≡ pointer_bytes plan.boot.slot

-- the slot that is named of a container that is kept
abbrev pub named_slot : Kept → Option Slot
named_slot one = option_map (λ boot. boot.slot) one.boot

-- what a boot writes
pub record IsBootPlan (dir : List ℕ) (one : Kept) (plan : BootPlan) : Type 0 where
  pub writes : IsCopyPlan dir one.name (named_slot one) plan.writes
  pub copy : boot_of plan.copy ≡ boot_map one.container
  pub set : (parts : SetParts) → IsSetOf one.release purpose.Release parts
      → IsCopyFor plan.writes.boot.set parts.package_map.container one.container

-- what is written where one flag is anew
pub record IsRenewalPlan (dir : List ℕ) (one : Kept) (key : Key) (plan : CopyPlan) : Type 0 where
  pub writes : IsCopyPlan dir one.name (named_slot one) plan
  pub was : BootSlot
  pub was_is : one.boot ≡ Some was
  pub boot : BootMap
  pub boot_is : one.container.boot ≡ Some boot
  pub set : (name : List ℕ) → IsCopyWith was.set name boot
      → IsCopyWith plan.boot.set name (renewed_boot one.container key boot)

-- the containers where the one at a place is booted; there is one, and the other argument counts for nothing
abbrev pub booted_at : List Entry → ℕ → Entry → List Entry
booted_at entries at other = slice_set entries at (booted_entry (slice_index_or entries at other))

-- and where one flag of it is anew in its boot copy
abbrev pub renewed_at : List Entry → ℕ → Key → Entry → List Entry
renewed_at entries at key other = slice_set entries at (renewed_entry (slice_index_or entries at other) key)

-- a container that is kept with a boot copy and its files
pub record TakesCopy (boot : BootSlot) (copy : BootMap) (old new : Kept) : Type 0 where
  pub is : new ≡ record old { container = record old.container { boot = Some copy }; boot = Some boot }
  pub valid : IsValidContainer new.container

abbrev pub IsBootedBy : BootSlot → Kept → Kept → Type 0
IsBootedBy boot old new = TakesCopy boot (boot_map old.container) old new

-- a container that is kept with one flag anew in its boot copy, and the files of that
pub record IsRenewedBy (boot : BootSlot) (key : Key) (old new : Kept) : Type 0 where
  pub is : new ≡ record old { container = renewed old.container key; boot = Some boot }
  pub valid : IsValidContainer new.container

-- what a cut leaves of the boot of one container
abbrev pub LeavesBooted : (first : Files) (spoken : List ℕ) → StoreView → ℕ → Files → List ℕ → Type 0
LeavesBooted first spoken store at files said =
    (other : Entry)
    → LeavesState first spoken store.dir (IsEitherState store.entries (booted_at store.entries at other)) files said

-- and of the renewal of one flag
abbrev pub LeavesRenewed : (first : Files) (spoken dir : List ℕ) → List Entry → ℕ → Key → Files → List ℕ → Type 0
LeavesRenewed first spoken dir entries at key files said =
    (other : Entry) → LeavesState first spoken dir (IsEitherState entries (renewed_at entries at key other)) files said
