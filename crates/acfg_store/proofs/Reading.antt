-- Lists with their number of rows before them: what is read is what is spelled, and there is one reading.
use Rattle.std.proofs.Common.{◌≡◌, ℕ, ◌^◌, ◌<◌, ◌≤◌, List, ◌++◌, length, Option, Some, None, refl, sym, ap, ◌∙◌, arith, codes}
use Rattle.std.specs.List.{flat_map, All}
use Rattle.std.specs.Ordering.{nat_cmp}
use Rattle.std.proofs.lemmas.List.{append_cancel_left}
use Rattle.acfg_base.specs.Found.{Finds}
use Rattle.acfg_base.specs.Places.{AreInOrder}
use Rattle.acfg_model.specs.State.{name_cmp, most_containers}
use Rattle.acfg_views.specs.Fields.{number}
use Rattle.acfg_store.specs.declared.locals.LocalOverride.{LocalOverride}
use Rattle.acfg_store.specs.declared.records.Recorded.{Recorded}
use Rattle.acfg_store.specs.Keys.{recorded_name, local_index}
use Rattle.acfg_store.specs.Records.{recorded_bytes, records_header, records_bytes, IsRecorded, AreRecords, SpellsRecords, local_bytes, locals_bytes, IsLocal, SpellsLocals}
use Rattle.acfg_store.specs.Taken.{IsPrefix, AreRows}
use Rattle.acfg_store.proofs.Fronts.{number_prefix}
use Rattle.acfg_store.proofs.Listed.{one_list}
use Rattle.acfg_store.proofs.Rowed.{header_parts, recorded_prefix, local_prefix}

module _ {X : Type 0} (spelled : X → List ℕ) (IsLawful : X → Type 0) (unique : IsPrefix spelled IsLawful) (header : ℕ → List ℕ) (prefix : IsPrefix header (λ (n : ℕ). n < 2 ^ 32)) where
  -- a text that begins with a count is a list of as many rows
  counted : (bytes : List ℕ) (count : ℕ) (behind : List ℕ) → count < 2 ^ 32 → bytes ≡ header count ++ behind → (rows : List X) → length rows < 2 ^ 32
      → bytes ≡ header (length rows) ++ flat_map spelled rows → (count ≡ length rows) × (behind ≡ flat_map spelled rows)
  counted bytes count behind small is rows bound same = prefix.one count (length rows) behind (flat_map spelled rows) small bound (sym is ∙ same)

  rows_are : (bytes : List ℕ) (count : ℕ) (behind : List ℕ) → count < 2 ^ 32 → bytes ≡ header count ++ behind → (rows : List X) → length rows < 2 ^ 32
      → All IsLawful rows → bytes ≡ header (length rows) ++ flat_map spelled rows → AreRows spelled IsLawful count behind rows
  rows_are bytes count behind small is rows bound each same =
      let c = counted bytes count behind small is rows bound same in
      record { many = sym c.0; each = each; are = c.1 }

  are_spelled : (bytes : List ℕ) (count : ℕ) (behind : List ℕ) → bytes ≡ header count ++ behind → (rows : List X) → AreRows spelled IsLawful count behind rows
      → bytes ≡ header (length rows) ++ flat_map spelled rows
  are_spelled bytes count behind is rows found =
      is ∙ ap (λ (t : List ℕ). header count ++ t) found.are ∙ ap (λ (n : ℕ). header n ++ flat_map spelled rows) (sym found.many)

  -- of two lists that are one text, each is the other
  one_text : (bytes : List ℕ) (rows all : List X) → length rows < 2 ^ 32 → length all < 2 ^ 32 → All IsLawful rows → All IsLawful all
      → bytes ≡ header (length rows) ++ flat_map spelled rows → bytes ≡ header (length all) ++ flat_map spelled all → rows ≡ all
  one_text bytes rows all rows-bound all-bound rows-each all-each rows-is all-is =
      one_list spelled IsLawful unique (length rows) (flat_map spelled rows) rows all
      (record { many = refl; each = rows-each; are = refl })
      (rows_are bytes (length rows) (flat_map spelled rows) rows-bound rows-is all all-bound all-each all-is)

-- ---- `records`

header_prefix : IsPrefix records_header (λ (n : ℕ). n < 2 ^ 32)
header_prefix = record {
  one = λ m n a b m-lt n-lt same.
      let version = append_cancel_left (codes "ACRF") _ _ (sym (header_parts m a) ∙ same ∙ header_parts n b) in
      let count = append_cancel_left (number 4 1) (number 4 m ++ a) (number 4 n ++ b) version in
      (number_prefix 4).one m n a b m-lt n-lt count;
}

few : (rows : List Recorded) → AreRecords rows → length rows < 2 ^ 32
few rows lawful = omega (arith, lawful.bound)

module _ (bytes : List ℕ) where
  pub no_header : ((n : ℕ) (rest : List ℕ) → n < 2 ^ 32 → bytes ≡ records_header n ++ rest → ⊥) → (rows : List Recorded) → SpellsRecords bytes rows → ⊥
  unfolding records_bytes
  no_header none rows spells = none (length rows) (flat_map recorded_bytes rows) (few rows spells.lawful) spells.spelled

  module _ (count : ℕ) (behind : List ℕ) (small : count < 2 ^ 32) (is : bytes ≡ records_header count ++ behind) where
    pub too_many : most_containers < count → (rows : List Recorded) → SpellsRecords bytes rows → ⊥
    unfolding records_bytes
    too_many more rows spells =
        let c = counted recorded_bytes IsRecorded recorded_prefix records_header header_prefix bytes count behind small is rows (few rows spells.lawful) spells.spelled in
        omega (arith, more, c.0, spells.lawful.bound)

    pub records_found : count ≤ most_containers → (found : Option (List Recorded))
        → Finds (λ (rows : List Recorded). AreRows recorded_bytes IsRecorded count behind rows × AreInOrder name_cmp recorded_name rows) found → Finds (SpellsRecords bytes) found
    unfolding records_bytes
    records_found le None none = λ rows spells.
        none rows (
          rows_are recorded_bytes IsRecorded recorded_prefix records_header header_prefix bytes count behind small is rows (few rows spells.lawful) spells.lawful.each spells.spelled,
          spells.lawful.order,
        )
    records_found le (Some rows) found = record {
      spelled = are_spelled recorded_bytes IsRecorded recorded_prefix records_header header_prefix bytes count behind is rows found.0;
      lawful = record { bound = omega (arith, le, found.0.many); each = found.0.each; order = found.1 };
    }

-- the list of containers that bytes spell is one
pub one_records : (bytes : List ℕ) (rows all : List Recorded) → SpellsRecords bytes rows → SpellsRecords bytes all → rows ≡ all
unfolding records_bytes
one_records bytes rows all p q =
    one_text recorded_bytes IsRecorded recorded_prefix records_header header_prefix bytes rows all (few rows p.lawful) (few all q.lawful) p.lawful.each q.lawful.each p.spelled q.spelled

-- ---- `local`

count_prefix : IsPrefix (number 4) (λ (n : ℕ). n < 2 ^ 32)
count_prefix = number_prefix 4

module _ (bytes : List ℕ) where
  pub no_count : ((n : ℕ) (rest : List ℕ) → n < 2 ^ 32 → bytes ≡ number 4 n ++ rest → ⊥) → (rows : List LocalOverride) → SpellsLocals bytes rows → ⊥
  unfolding locals_bytes
  no_count none rows spells = none (length rows) (flat_map local_bytes rows) spells.lawful.bound spells.spelled

  pub locals_found : (count : ℕ) (behind : List ℕ) → count < 2 ^ 32 → bytes ≡ number 4 count ++ behind → (found : Option (List LocalOverride))
      → Finds (λ (rows : List LocalOverride). AreRows local_bytes IsLocal count behind rows × AreInOrder nat_cmp local_index rows) found → Finds (SpellsLocals bytes) found
  unfolding locals_bytes
  locals_found count behind small is None none = λ rows spells.
      none rows (
        rows_are local_bytes IsLocal local_prefix (number 4) count_prefix bytes count behind small is rows spells.lawful.bound spells.lawful.each spells.spelled,
        spells.lawful.order,
      )
  locals_found count behind small is (Some rows) found = record {
    spelled = are_spelled local_bytes IsLocal local_prefix (number 4) count_prefix bytes count behind is rows found.0;
    lawful = record { bound = omega (arith, small, found.0.many); each = found.0.each; order = found.1 };
  }

-- the local overrides that bytes spell are one list
pub one_locals : (bytes : List ℕ) (rows all : List LocalOverride) → SpellsLocals bytes rows → SpellsLocals bytes all → rows ≡ all
unfolding locals_bytes
one_locals bytes rows all p q =
    one_text local_bytes IsLocal local_prefix (number 4) count_prefix bytes rows all p.lawful.bound q.lawful.bound p.lawful.each q.lawful.each p.spelled q.spelled
