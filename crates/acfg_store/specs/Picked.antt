-- Private: the files of a boot copy, as they are written for the flags of a release. No public clause cites it.
use Rattle.std.specs.Prelude.{◌≡◌, ℕ, ◌+◌, ◌*◌, List, All, IsTrue, ◌||◌, is_some, unwrap_or}
use Rattle.acfg_base.specs.Release.{is_read_write}
use Rattle.acfg_images.specs.declared.purpose.Use.TheVariants as purpose
use Rattle.acfg_images.specs.Files as four
use Rattle.acfg_images.specs.Set as images
use Rattle.acfg_model.specs.declared.containers.FlagState.{FlagState}
use Rattle.acfg_model.specs.FlagStates.{local_in, release_in, server_in}
use Rattle.acfg_model.specs.State.{Container}
use Rattle.acfg_model.specs.Step.{boot_map}
use Rattle.acfg_store.specs.Records.{bit}
use Rattle.acfg_store.specs.Stands.{boot_notes, boot_release}

-- a flag's pick, and its info byte with a note of each override
abbrev pub pick_byte : FlagState → ℕ
pick_byte row = bit (unwrap_or row.local (unwrap_or row.server row.entry.value))

abbrev pub noted_byte : FlagState → ℕ
noted_byte row =
    2 * bit (is_read_write row.entry.kind) + (bit (is_some row.server) + 4 * bit (is_some row.local))

-- only read-write flags have overrides
abbrev pub AreOnWritable : List FlagState → Type 0
AreOnWritable rows = All
    (λ row. IsTrue (is_some row.server || is_some row.local) → IsTrue (is_read_write row.entry.kind)) rows

-- the rows are a container's flags and overrides
pub record HasRows (container : Container) (rows : List FlagState) : Type 0 where
  pub release : container.release ≡ release_in rows
  pub server : container.server ≡ server_in rows
  pub local : container.local ≡ local_in rows

-- the files are a set of the boot copy that a boot makes of the container
abbrev pub IsCopyFor : four.Files → List ℕ → Container → Type 0
IsCopyFor made name container = images.IsSet made purpose.Copy name (boot_release (boot_map container))
    (boot_notes (boot_map container))
