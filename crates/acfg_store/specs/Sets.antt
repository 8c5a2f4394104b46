-- The files of its containers that a store keeps: those of each release, and of each boot copy.
use Rattle.std.specs.Prelude.{◌≡◌, ◌<◌, ⊤, ℕ, List, length, get_or, Option, Some, None}
use Rattle.acfg_device.specs.Panel.{Files}
use Rattle.acfg_images.specs.Files as four
use Rattle.acfg_store.specs.declared.names.Part.TheVariants.{Release, Boot}
use Rattle.acfg_store.specs.declared.names.Slot.{Slot}
use Rattle.acfg_store.specs.Names.{path}
use Rattle.acfg_store.specs.Stands.{AreFiles, Entry}

-- the files of a container's release, and those of its boot copy, where there is one
pub record Sets : Type 0 where
  pub release : four.Files
  pub boot : Option four.Files

-- where a boot slot is named, these files stand in it, and else there are none
abbrev pub IsBootSet : Files → (dir name : List ℕ) → Option Slot → Option four.Files → Type 0
IsBootSet files dir name None None = ⊤
IsBootSet files dir name None (Some set) = ⊥
IsBootSet files dir name (Some slot) None = ⊥
IsBootSet files dir name (Some slot) (Some set) = AreFiles files (λ file. path dir name (Boot slot file)) set

-- they stand in the container's named slots
pub record AreSetsOf (files : Files) (dir : List ℕ) (entry : Entry) (sets : Sets) : Type 0 where
  pub release : AreFiles files (λ file. path dir entry.name (Release entry.release_slot file)) sets.release
  pub boot : IsBootSet files dir entry.name entry.boot_slot sets.boot

-- each container has its files, in the order of the containers
pub record AreSetsOfAll (files : Files) (dir : List ℕ) (entries : List Entry) (sets : List Sets) : Type 0 where
  pub count : length sets ≡ length entries
  pub each : (k : ℕ) (entry : Entry) (of : Sets) → k < length entries
      → AreSetsOf files dir (get_or entries k entry) (get_or sets k of)
