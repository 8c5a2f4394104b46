-- Private: the files of an override slot, as they are written for the flags of a release. No public clause cites it.
use Rattle.std.specs.Prelude.{◌≡◌, ℕ, ◌+◌, ◌*◌, ◌-◌, ◌<◌, List, ◌++◌, length, map, take, slice_index}
use Rattle.std.specs.Prelude.{Some, is_some, unwrap_or}
use Rattle.acfg_base.specs.Places.{AreInOrder}
use Rattle.acfg_base.specs.Release.{entries_of, key_cmp, is_read_write}
use Rattle.acfg_images.specs.declared.purpose.Use.TheVariants as purpose
use Rattle.acfg_images.specs.Files as four
use Rattle.acfg_images.specs.Set as images
use Rattle.acfg_model.specs.declared.containers.FlagState.{FlagState}
use Rattle.acfg_model.specs.FlagStates.{release_in, row_key}
use Rattle.acfg_store.specs.Kept.{index_listed}
use Rattle.acfg_store.specs.Records.{bit}

-- a flag's value with the server's override, and its info byte
abbrev pub value_byte : FlagState → ℕ
value_byte row = bit (unwrap_or row.server row.entry.value)

abbrev pub info_byte : FlagState → ℕ
info_byte row = 2 * bit (is_read_write row.entry.kind) + bit (is_some row.server)

-- at each of the first so many indexes stands the byte of one that has it
abbrev pub ArePut : (indexes bytes : List ℕ) → ℕ → List ℕ → Type 0
ArePut indexes bytes count table = (k : ℕ) → k < count
    → (j : ℕ) × (j < count) × (slice_index indexes j ≡ slice_index indexes k)
    × (slice_index table (slice_index indexes k) ≡ slice_index bytes j)

-- the file with so many other bytes at its end, those at the indexes as they are given
pub record IsStamped (file : List ℕ) (count : ℕ) (indexes bytes made : List ℕ) : Type 0 where
  pub table : List ℕ
  pub size : length table ≡ count
  pub put : ArePut indexes bytes (length indexes) table
  pub is : made ≡ take (length file - count) file ++ table

-- rows in order are the flags that a release's set lists, and the indexes are theirs
pub record AreFlagsIn (set : four.Files) (parts : images.SetParts) (rows : List FlagState) (indexes : List ℕ)
    : Type 0 where
  pub is_set : images.IsSetOf set purpose.Release parts
  pub order : AreInOrder key_cmp row_key rows
  pub release_is : images.release_in parts ≡ release_in rows
  pub indexes_are : map (λ index. Some index) indexes ≡ map (index_listed parts) (entries_of (release_in rows))
