-- The files of a device directory that are no storage files: the list of containers, the local overrides of one, and
-- its boot pointer. Numbers and strings are those of AOSP's aconfig_storage_file.
use Rattle.std.specs.Prelude.{◌≡◌, ℕ, ◌<◌, ◌≤◌, ◌^◌, Bool, true, false, List, [], ◌∷◌, ◌++◌, length, All, codes}
use Rattle.std.specs.List.{flat_map}
use Rattle.std.specs.Ordering.{nat_cmp}
use Rattle.acfg_base.specs.Names.{IsContainer}
use Rattle.acfg_base.specs.Places.{AreInOrder}
use Rattle.acfg_model.specs.State.{IsDigest, most_containers, name_cmp}
use Rattle.acfg_views.specs.Fields.{number, string}
use Rattle.acfg_store.specs.declared.locals.LocalOverride.{LocalOverride}
use Rattle.acfg_store.specs.declared.names.Slot.{Slot}
use Rattle.acfg_store.specs.declared.records.Recorded.{Recorded}
use Rattle.acfg_store.specs.Names.{slot_number}
use Rattle.acfg_store.specs.Keys.{recorded_name, local_index}

-- ---- `records`

-- a container: its name, its two slots, and the digest of its release's files
unfoldable pub recorded_tail : Recorded → List ℕ
recorded_tail row = number 1 (slot_number row.release) ++ (number 1 (slot_number row.overrides) ++ row.digest)

unfoldable pub recorded_bytes : Recorded → List ℕ
recorded_bytes row = string row.name ++ recorded_tail row

-- the mark of the file, its version, and how many containers it lists
unfoldable pub records_header : ℕ → List ℕ
records_header count = codes "ACRF" ++ (number 4 1 ++ number 4 count)

unfoldable pub records_bytes : List Recorded → List ℕ
records_bytes rows = records_header (length rows) ++ flat_map recorded_bytes rows

pub record IsRecorded (row : Recorded) : Type 0 where
  pub name : IsContainer row.name
  pub digest : IsDigest row.digest

-- at most 256 containers, in order of their names' bytes, no two with one name
pub record AreRecords (rows : List Recorded) : Type 0 where
  pub bound : length rows ≤ most_containers
  pub each : All IsRecorded rows
  pub order : AreInOrder name_cmp recorded_name rows

-- the bytes are a lawful list of containers, and nothing behind it
pub record SpellsRecords (bytes : List ℕ) (rows : List Recorded) : Type 0 where
  pub spelled : bytes ≡ records_bytes rows
  pub lawful : AreRecords rows

-- ---- `local`

abbrev pub bit : Bool → ℕ
bit false = 0
bit true = 1

-- a local override: the flag's global index, and the value
unfoldable pub local_bytes : LocalOverride → List ℕ
local_bytes row = number 4 row.index ++ number 1 (bit row.value)

unfoldable pub locals_bytes : List LocalOverride → List ℕ
locals_bytes rows = number 4 (length rows) ++ flat_map local_bytes rows

abbrev pub IsLocal : LocalOverride → Type 0
IsLocal row = row.index < 2 ^ 32

-- so many as four bytes count, in order of their indexes, no two with one index
pub record AreLocals (rows : List LocalOverride) : Type 0 where
  pub bound : length rows < 2 ^ 32
  pub each : All IsLocal rows
  pub order : AreInOrder nat_cmp local_index rows

-- the bytes are a lawful list of local overrides, and nothing behind it
pub record SpellsLocals (bytes : List ℕ) (rows : List LocalOverride) : Type 0 where
  pub spelled : bytes ≡ locals_bytes rows
  pub lawful : AreLocals rows

-- ---- the boot pointer

-- one byte, the number of the slot
abbrev pub pointer_bytes : Slot → List ℕ
pointer_bytes slot = slot_number slot ∷ []
