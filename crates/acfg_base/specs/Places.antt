-- Rows in order of their keys: where a key stands, and which finite maps they make.
use Rattle.std.specs.Prelude.{◌≡◌, ℕ, ◌+◌, ◌<◌, ◌≤◌, false, List, length, map, filter_map, slice_index_or, IsTrue}
use Rattle.std.specs.Prelude.{Option, option_map, Result, MatchResult}
use Rattle.std.specs.declared.cmp.Ordering.{Ordering}
use Rattle.std.specs.declared.cmp.Ordering.TheVariants.{Less, Equal, Greater}
use Rattle.std.specs.Ordering.{is_lt}
use Rattle.std.specs.FinMap.{FinMap, from_entries, find, is_sorted}

module _ {K Y : Type 0} (cmp : K → K → Ordering) (key : Y → K) (rows : List Y) where
  -- the keys rise strictly
  abbrev pub AreInOrder : Type 0
  AreInOrder = IsTrue (is_sorted cmp (map (λ row. (key row, row)) rows))

  -- some row's key isn't below the next one's
  abbrev pub SomeStepDown : Type 0
  SomeStepDown =
      (k : ℕ) × (k + 1 < length rows)
      × ((d : Y) → is_lt (cmp (key (slice_index_or rows k d)) (key (slice_index_or rows (k + 1) d))) ≡ false)

  -- the first row with a key
  abbrev pub row_at : K → Option Y
  row_at q = find cmp q (map (λ row. (key row, row)) rows)

  -- the row at i has the key
  pub record StandsAt (q : K) (i : ℕ) : Type 0 where
    pub within : i < length rows
    pub same : (d : Y) → cmp (key (slice_index_or rows i d)) q ≡ Equal

  -- the rows before i have lesser keys, and those from i on have greater ones
  pub record WouldStandAt (q : K) (i : ℕ) : Type 0 where
    pub within : i ≤ length rows
    pub before : (j : ℕ) (d : Y) → j < i → cmp (key (slice_index_or rows j d)) q ≡ Less
    pub behind : (j : ℕ) (d : Y) → i ≤ j → j < length rows → cmp (key (slice_index_or rows j d)) q ≡ Greater

  -- what a search for the key answers: a row that has it, or else where one would stand
  abbrev pub IsPlace : K → Result ℕ ℕ → Type 0
  IsPlace q r = MatchResult r (StandsAt q) (WouldStandAt q)

  -- the map from each row's key to what is read of the row
  abbrev pub map_of : {X : Type 0} → (Y → X) → FinMap cmp X
  map_of value = from_entries (map (λ row. (key row, value row)) rows)

  -- the same of the rows that have a value
  abbrev pub map_where : {X : Type 0} → (Y → Option X) → FinMap cmp X
  map_where value = from_entries (filter_map (λ row. option_map (λ v. (key row, v)) (value row)) rows)
