-- Private: the files of a boot copy in which one flag is as its container has it now. No public clause cites it.
use Rattle.std.specs.Prelude.{◌≡◌, ℕ, ◌+◌, ◌*◌, List, Some, option_map, is_some}
use Rattle.std.specs.FinMap.{get}
use Rattle.acfg_base.specs.Release.{Key}
use Rattle.acfg_images.specs.declared.purpose.Use.TheVariants as purpose
use Rattle.acfg_images.specs.Files as four
use Rattle.acfg_images.specs.Set.{IsSet, SetParts, listed}
use Rattle.acfg_model.specs.declared.containers.FlagState.{FlagState}
use Rattle.acfg_model.specs.State.{BootMap, Container}
use Rattle.acfg_model.specs.Step.{IsRenewable, renewed_flag, with_flag}
use Rattle.acfg_store.specs.Records.{bit}
use Rattle.acfg_store.specs.Stands.{boot_notes, boot_release}

-- the files are a set of the container, of this boot copy
abbrev pub IsCopyWith : four.Files → List ℕ → BootMap → Type 0
IsCopyWith set name boot = IsSet set purpose.Copy name (boot_release boot) (boot_notes boot)

-- they are a boot copy that takes another value of the flag
pub record TakesFlag (set : four.Files) (key : Key) : Type 0 where
  pub name : List ℕ
  pub boot : BootMap
  pub copy : IsCopyWith set name boot
  pub renewable : IsRenewable (Some boot) key

-- a boot copy with the entry of a container's flag anew
abbrev pub renewed_boot : Container → Key → BootMap → BootMap
renewed_boot container key boot = with_flag boot key (renewed_flag container key (get boot key))

-- the info byte of a read-write flag, with a note of each override
abbrev pub renewed_byte : FlagState → ℕ
renewed_byte row = 2 + (bit (is_some row.server) + 4 * bit (is_some row.local))

-- the global index that a set lists of a flag, which it lists
abbrev pub IsIndexIn : SetParts → Key → ℕ → Type 0
IsIndexIn parts key index = option_map (λ row. row.index) (listed parts key.0 key.1) ≡ Some index
