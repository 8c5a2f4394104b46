-- Private: the flags of a set in order of their keys, as code holds them, and what is read of them at their places.
use Rattle.std.specs.Prelude.{◌≡◌, ℕ, ◌*◌, ◌<◌, ◌≤◌, ◌⊎◌, Bool, List, All, IsTrue, ◌==◌, if◌then◌else◌}
use Rattle.std.specs.Prelude.{Option, Some, None, IsSome, Ok, option_map}
use Rattle.std.specs.Bool.{MatchBool}
use Rattle.acfg_base.specs.declared.releases.Entry.{Entry}
use Rattle.acfg_base.specs.declared.releases.Kind.{Kind}
use Rattle.acfg_base.specs.Places.{AreInOrder, row_at}
use Rattle.acfg_base.specs.Release.{Key, key_cmp, is_read_write}
use Rattle.acfg_images.specs.Set.{Listed, SetParts, has_local, has_server, listed, listed_key, listing}
use Rattle.acfg_lookup.specs.Lookup.{flag_found}
use Rattle.acfg_model.specs.declared.containers.FlagState.{FlagState}
use Rattle.acfg_model.specs.declared.views.Booted.{Booted}
use Rattle.acfg_store.specs.declared.locals.LocalOverride.{LocalOverride}
use Rattle.acfg_store.specs.declared.placed.Placed.{Placed}
use Rattle.acfg_store.specs.Records.{SpellsLocals, bit}
use Rattle.acfg_store.specs.Stands.{local_at}
use Rattle.acfg_views.specs.Reading.{OpenList, byte_in, opened_list}

abbrev pub placed_key : Placed → Key
placed_key row = (row.package, row.flag)

-- the row as a set lists it
abbrev pub as_listed : Placed → Listed
as_listed row = record {
  «package» = row.package;
  flag = row.flag;
  kind = row.found.kind;
  value = row.found.value;
  bits = row.found.bits;
  index = row.found.index;
}

-- what was found of the row is what the set lists
abbrev pub IsTold : SetParts → Placed → Type 0
IsTold parts row = Some row.found ≡ option_map flag_found (listed parts row.package row.flag)

-- in order, these are the flags that a set lists, and each of those has its own key
pub record AreFlagsOf (parts : SetParts) (rows : List Placed) : Type 0 where
  pub order : AreInOrder key_cmp placed_key rows
  pub found : (key : Key) → row_at key_cmp listed_key (listing parts) key
      ≡ option_map as_listed (row_at key_cmp placed_key rows key)
  pub own : All (λ row. row_at key_cmp listed_key (listing parts) (listed_key row) ≡ Some row) (listing parts)

-- ---- an override slot

abbrev pub index_of : Placed → ℕ
index_of row = row.found.index

-- a file of one byte a flag opens, and each flag's byte is lawful
pub record IsListOver (file_type : ℕ) (bytes container : List ℕ) (count : ℕ) (IsLawful : Placed → ℕ → Type 0)
    (flags : List Placed) (list : OpenList) : Type 0 where
  pub opened : opened_list file_type bytes ≡ Ok list
  pub container_is : list.container ≡ container
  pub count_is : list.count ≡ count
  pub each : All (λ row. IsLawful row (byte_in list row.found.index)) flags

abbrev pub IsValueAt : Placed → ℕ → Type 0
IsValueAt row byte = byte ≤ 1

-- an info byte of a flag of a kind, over a value where the release has this one
pub record IsInfoOf (kind : Kind) (released : Bool) (byte value : ℕ) : Type 0 where
  pub lawful : (byte ≡ 2 * bit (is_read_write kind)) ⊎ (IsTrue (is_read_write kind) × (byte ≡ 3))
  pub value_is : (byte ≡ 3 → ⊥) → value ≡ bit released

abbrev pub IsInfoAt : OpenList → Placed → ℕ → Type 0
IsInfoAt values row byte = IsInfoOf row.found.kind row.found.value byte (byte_in values row.found.index)

-- all have it, or some hasn't
abbrev pub IsAll : {X : Type 0} → (X → Type 0) → List X → Bool → Type 0
IsAll P xs found = MatchBool found (All P xs) (All P xs → ⊥)

pub record AreLocalsOver (bytes : List ℕ) (count : ℕ) (flags : List Placed) (rows : List LocalOverride) : Type 0 where
  pub spells : SpellsLocals bytes rows
  pub indexes : All (λ row. row.index < count) rows
  pub writable : All (λ row. IsSome (local_at rows row.found.index) → IsTrue (is_read_write row.found.kind)) flags

-- a flag with its overrides, by the bytes at its index
abbrev pub server_at : (values infos : OpenList) → ℕ → Option Bool
server_at values infos index = if byte_in infos index == 3 then Some (byte_in values index == 1) else None

abbrev pub entry_at_row : Placed → Entry
entry_at_row row = record {
  «package» = row.package;
  flag = row.flag;
  kind = row.found.kind;
  value = row.found.value;
}

abbrev pub state_row : (values infos : OpenList) → List LocalOverride → Placed → FlagState
state_row values infos locals row = record {
  entry = entry_at_row row;
  server = server_at values infos row.found.index;
  local = local_at locals row.found.index;
}

-- ---- a boot copy

abbrev pub boot_row : Placed → Booted
boot_row row = record {
  entry = entry_at_row row;
  server = has_server row.found.bits;
  local = has_local row.found.bits;
}
