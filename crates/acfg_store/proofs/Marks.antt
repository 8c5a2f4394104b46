-- What a table of marks lists: in order of indexes, and at each index what its mark says.
use Rattle.std.proofs.Common.{◌≡◌, ℕ, suc, zero, ◌+◌, ◌≤◌, ◌<◌, Bool, true, false, cond, ◌==◌, ◌&&◌, T, List, [], ◌∷◌, length, map, get_or, Option, Some, None, option_map, refl, ap, subst, ◌∙◌, arith}
use Rattle.std.specs.Prelude.{All, find}
use Rattle.std.specs.Ordering.{nat_cmp, is_lt}
use Rattle.std.specs.Cmp.{nat_cmp_is}
use Rattle.std.specs.FinMap.Entries.{below_all, is_sorted}
use Rattle.std.specs.declared.cmp.Ordering.TheVariants.{Less}
use Rattle.std.proofs.lemmas.Bool.Decides.{nat_tests}
use Rattle.std.proofs.lemmas.List.Elements.{All-cons, All-nil}
use Rattle.acfg_base.specs.Places.{AreInOrder}
use Rattle.acfg_base.proofs.Rows.{true_of}
use Rattle.acfg_store.specs.declared.locals.LocalOverride.{LocalOverride}
use Rattle.acfg_store.specs.Keys.{local_index}
use Rattle.acfg_store.specs.Stands.{local_at}
use Rattle.acfg_store.specs.Marked.{mark_value, marked_from, row_before}

-- ---- order

both : (a b : Bool) → T a → T b → T (a && b)
both true b p q = q
both false b p q = p

abbrev keyed : List LocalOverride → List (ℕ × LocalOverride)
keyed rows = map (λ (row : LocalOverride). (local_index row, row)) rows

is_below : (n at : ℕ) → n < at → T (is_lt (nat_cmp n at))
is_below n at less = subst (λ o. T (is_lt o)) (nat_cmp_is n at Less less) tt

below : (n at : ℕ) (table : List ℕ) → n < at → T (below_all nat_cmp n (keyed (marked_from at table)))
below n at [] less = tt
below n at (mark ∷ table) less = step (mark_value mark) (below n (at + 1) table (omega (arith, less)))
  where
    step : (value : Option Bool) → T (below_all nat_cmp n (keyed (marked_from (at + 1) table))) → T (below_all nat_cmp n (keyed (row_before at value (marked_from (at + 1) table))))
    step None rest = rest
    step (Some value) rest = both (is_lt (nat_cmp n at)) (below_all nat_cmp n (keyed (marked_from (at + 1) table))) (is_below n at less) rest

rising : (at : ℕ) (table : List ℕ) → T (is_sorted nat_cmp (keyed (marked_from at table)))
rising at [] = tt
rising at (mark ∷ table) = step (mark_value mark) (rising (at + 1) table)
  where
    step : (value : Option Bool) → T (is_sorted nat_cmp (keyed (marked_from (at + 1) table))) → T (is_sorted nat_cmp (keyed (row_before at value (marked_from (at + 1) table))))
    step None rest = rest
    step (Some value) rest = both (below_all nat_cmp at (keyed (marked_from (at + 1) table))) (is_sorted nat_cmp (keyed (marked_from (at + 1) table))) (below at (at + 1) table (omega arith)) rest

pub marked_rise : (at : ℕ) (table : List ℕ) → AreInOrder nat_cmp local_index (marked_from at table)
marked_rise at table = true_of _ (rising at table)

-- ---- bounds

pub marked_within : (at : ℕ) (table : List ℕ) → All (λ (row : LocalOverride). row.index < at + length table) (marked_from at table)
marked_within at [] = All-nil (λ (row : LocalOverride). row.index < at + 0)
marked_within at (mark ∷ table) = step (mark_value mark) (subst (λ (n : ℕ). All (λ (row : LocalOverride). row.index < n) (marked_from (at + 1) table)) (omega arith) (marked_within (at + 1) table))
  where
    step : (value : Option Bool) → All (λ (row : LocalOverride). row.index < at + length (mark ∷ table)) (marked_from (at + 1) table)
        → All (λ (row : LocalOverride). row.index < at + length (mark ∷ table)) (row_before at value (marked_from (at + 1) table))
    step None rest = rest
    step (Some value) rest = All-cons (λ (row : LocalOverride). row.index < at + length (mark ∷ table)) (record { index = at; value = value }) (marked_from (at + 1) table) (omega arith) rest

pub marked_count : (at : ℕ) (table : List ℕ) → length (marked_from at table) ≤ length table
marked_count at [] = omega arith
marked_count at (mark ∷ table) = step (mark_value mark) (marked_count (at + 1) table)
  where
    step : (value : Option Bool) → length (marked_from (at + 1) table) ≤ length table → length (row_before at value (marked_from (at + 1) table)) ≤ suc (length table)
    step None rest = omega (arith, rest)
    step (Some value) rest = omega (arith, rest)

-- ---- what stands at an index

apart : (a b : ℕ) → a < b → (b == a) ≡ false
apart a b less = grind (arith, nat_tests)

apart_back : (a b : ℕ) → a < b → (a == b) ≡ false
apart_back a b less = grind (arith, nat_tests)

same : (a b : ℕ) → a ≡ b → (a == b) ≡ true
same a b e = grind (arith, nat_tests)

passed : (row : LocalOverride) (rows : List LocalOverride) (index : ℕ) → (row.index == index) ≡ false → local_at (row ∷ rows) index ≡ local_at rows index
passed row rows index miss = ap (λ (b : Bool). option_map (λ (row : LocalOverride). row.value) (cond b (Some row) (find (λ (row : LocalOverride). row.index == index) rows))) miss

found : (row : LocalOverride) (rows : List LocalOverride) (index : ℕ) → (row.index == index) ≡ true → local_at (row ∷ rows) index ≡ Some row.value
found row rows index hit = ap (λ (b : Bool). option_map (λ (row : LocalOverride). row.value) (cond b (Some row) (find (λ (row : LocalOverride). row.index == index) rows))) hit

none_before : (index at : ℕ) (table : List ℕ) → index < at → local_at (marked_from at table) index ≡ None
none_before index at [] less = refl
none_before index at (mark ∷ table) less = step (mark_value mark) (none_before index (at + 1) table (omega (arith, less)))
  where
    step : (value : Option Bool) → local_at (marked_from (at + 1) table) index ≡ None → local_at (row_before at value (marked_from (at + 1) table)) index ≡ None
    step None rest = rest
    step (Some value) rest = passed (record { index = at; value = value }) (marked_from (at + 1) table) index (apart index at less) ∙ rest

pub marked_at : (at k index : ℕ) (table : List ℕ) → index ≡ at + k → k < length table → local_at (marked_from at table) index ≡ mark_value (get_or table k 0)
marked_at at k index [] is within = absurd (omega (arith, within))
marked_at at zero index (mark ∷ table) is within = step (mark_value mark)
  where
    step : (value : Option Bool) → local_at (row_before at value (marked_from (at + 1) table)) index ≡ value
    step None = none_before index (at + 1) table (omega (arith, is))
    step (Some value) = found (record { index = at; value = value }) (marked_from (at + 1) table) index (same at index (omega (arith, is)))
marked_at at (suc k) index (mark ∷ table) is within = step (mark_value mark) (marked_at (at + 1) k index table (omega (arith, is)) (omega (arith, within)))
  where
    step : (value : Option Bool) → local_at (marked_from (at + 1) table) index ≡ mark_value (get_or table k 0) → local_at (row_before at value (marked_from (at + 1) table)) index ≡ mark_value (get_or table k 0)
    step None rest = rest
    step (Some value) rest = passed (record { index = at; value = value }) (marked_from (at + 1) table) index (apart_back at index (omega (arith, is))) ∙ rest
