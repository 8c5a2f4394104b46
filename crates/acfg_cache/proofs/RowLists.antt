-- The rows of lists: which flags they have, and that they differ.
use Rattle.std.proofs.Common.{◌≡◌, ℕ, zero, suc, ◌+◌, ◌<◌, Bool, false, T, List, [], ◌∷◌, ◌++◌, length, map, drop, get_or, Some, Ordering, Less, Equal, Greater, is_eq, refl, sym, ap, subst, ◌∙◌, arith, inl, inr, IsPermutation}
use Rattle.std.specs.Prelude.{All, Contains}
use Rattle.std.specs.List.{AllByRecursion, IsDistinct}
use Rattle.std.specs.Ordering.{nat_cmp, ordering_reverse, ordering_then}
use Rattle.std.specs.Cmp.{nat_cmp_is}
use Rattle.std.specs.Cmp.Lexicographic.{slice_cmp}
use Rattle.std.specs.FinMap.{is_sorted}
use Rattle.std.specs.FinMap.Entries.{below_all}
use Rattle.std.proofs.lemmas.List.{get_or-map, get_or_default, length-map}
use Rattle.std.proofs.lemmas.Option.{get_or_from_slice_get, slice_get_within}
use Rattle.std.proofs.lemmas.List.Elements.{Contains-append_cases, Contains-append_left, Contains-append_right}
use Rattle.std.proofs.lemmas.List.Sorted.{Contains-permutation, IsPermutation-sym}
use Rattle.std.proofs.lemmas.Map.Keys.{IsDistinct-IsPermutation}
use Rattle.acfg_base.proofs.Rows.{Less_of, T_of, first_true, second_true}
use Rattle.acfg_decls.specs.declared.flags.Flag.{Flag}
use Rattle.acfg_decls.specs.Flags.{AreFlags, IsLawful, full_name}
use Rattle.acfg_cache.specs.Merging.{StandsIn}
use Rattle.acfg_cache.specs.Rows.{Listed, row_key, row_order, rows_of}
use Rattle.acfg_cache.proofs.RowOrder.{key_total}
use Rattle.acfg_cache.proofs.Steps.{next}

-- ---- which flags rows have

-- a flag as a row of this list
abbrev row_in : ℕ → Flag → Listed
row_in n flag = (n, flag)

in_list : (n : ℕ) (flags : List Flag) (i : ℕ) (flag : Flag) → Contains {X = Listed} (map (row_in n) flags) (i, flag) → (i ≡ n) × Contains flags flag
in_list n flags i flag (k, inside, is) =
    let long = length-map flags (row_in n) in
    let within : k < length flags = omega (arith, inside, long) in
    let row : Listed = (i, flag) in
    let here : row_in n (get_or flags k flag) ≡ row = sym (get_or-map (row_in n) flags k flag row within) ∙ is in
    let has : Contains flags flag = (k, within, ap (λ (r : Listed). r.1) here) in
    (sym (ap (λ (r : Listed). r.0) here), has)

of_list : (n : ℕ) (flags : List Flag) (flag : Flag) → Contains flags flag → Contains {X = Listed} (map (row_in n) flags) (n, flag)
of_list n flags flag (k, within, is) =
    let long = length-map flags (row_in n) in
    let row : Listed = (n, flag) in
    let has : Contains (map (row_in n) flags) row = (k, omega (arith, within, long), get_or-map (row_in n) flags k flag row within ∙ ap (row_in n) is) in
    has

pub in_rows : (n : ℕ) (lists : List (List Flag)) (i : ℕ) (flag : Flag) → Contains (rows_of n lists) (i, flag) → (k : ℕ) × (i ≡ n + k) × StandsIn lists k flag
in_rows n [] i flag (k, inside, is) = absurd (omega (arith, inside))
in_rows n (flags ∷ lists) i flag has =
    elim (Contains-append_cases (map (λ f. (n, f)) flags) (rows_of (n + 1) lists) (i, flag) has) [
      | inl here ↦
          let found = in_list n flags i flag here in
          (0, omega (arith, found.0), record { list = flags; at = refl; has = found.1 })
      | inr later ↦
          let found = in_rows (n + 1) lists i flag later in
          (suc found.0, omega (arith, found.1), record { list = found.2.list; at = found.2.at; has = found.2.has })
    ]

pub of_rows : (n : ℕ) (lists : List (List Flag)) (k : ℕ) (flag : Flag) → StandsIn lists k flag → Contains (rows_of n lists) (n + k, flag)
of_rows n [] k flag stands = let none = stands.at in absurd cc
of_rows n (flags ∷ lists) zero flag stands =
    let at : Some flags ≡ Some stands.list = stands.at in
    let same : stands.list ≡ flags = cc in
    let has : Contains flags flag = subst (λ (l : List Flag). Contains l flag) same stands.has in
    let e : n ≡ n + 0 = omega arith in
    subst (λ (i : ℕ). Contains (rows_of n (flags ∷ lists)) (i, flag)) e (Contains-append_left (map (λ f. (n, f)) flags) (rows_of (n + 1) lists) (n, flag) (of_list n flags flag has))
of_rows n (flags ∷ lists) (suc k) flag stands =
    let found = of_rows (n + 1) lists k flag (record { list = stands.list; at = stands.at; has = stands.has }) in
    let e : n + 1 + k ≡ n + suc k = omega arith in
    subst (λ (i : ℕ). Contains (rows_of n (flags ∷ lists)) (i, flag)) e (Contains-append_right (map (λ f. (n, f)) flags) (rows_of (n + 1) lists) (n + 1 + k, flag) found)

-- the rows of one more list
pub rows_next : (lists : List (List Flag)) (i : ℕ) (flags : List Flag) → i < length lists → flags ≡ get_or lists i flags
    → rows_of i (drop i lists) ≡ map (λ flag. (i, flag)) flags ++ rows_of (i + 1) (drop (i + 1) lists)
rows_next lists i flags within is = ap (rows_of i) (next lists i flags within is)

-- ---- rows differ

abbrev pub alike : Listed → Listed → Bool
alike a b = is_eq (row_order a b)

every_joined : {X : Type 0} (P : X → Type 0) (xs ys : List X) → AllByRecursion P xs → AllByRecursion P ys → AllByRecursion P (xs ++ ys)
every_joined P [] ys one two = two
every_joined P (x ∷ xs) ys one two = (one.0, every_joined P xs ys one.1 two)

-- a flag and those behind it in its list
below_differ : (n : ℕ) (flag : Flag) (flags : List Flag) → T (below_all (slice_cmp nat_cmp) (full_name flag) (map (λ f. (full_name f, f)) flags)) → AllByRecursion (λ row. alike (n, flag) row ≡ false) (map (λ f. (n, f)) flags)
below_differ n flag [] below = tt
below_differ n flag (other ∷ flags) below =
    let less = Less_of (slice_cmp nat_cmp (full_name flag) (full_name other)) (first_true _ _ below) in
    (ap (λ r. is_eq (ordering_then r (nat_cmp n n))) less, below_differ n flag flags (second_true _ _ below))

then_apart : (r : Ordering) → is_eq (ordering_then r Less) ≡ false
then_apart Less = refl
then_apart Equal = refl
then_apart Greater = refl

-- a flag and those of later lists
later_differ : (n : ℕ) (flag : Flag) (rows : List Listed) → AllByRecursion (λ row. n < row.0) rows → AllByRecursion (λ row. alike (n, flag) row ≡ false) rows
later_differ n flag [] later = tt
later_differ n flag (row ∷ rows) later =
    let less : nat_cmp n row.0 ≡ Less = sym (nat_cmp_is n row.0 Less later.0) in
    (ap (λ r. is_eq (ordering_then (slice_cmp nat_cmp (full_name flag) (full_name row.1)) r)) less ∙ then_apart (slice_cmp nat_cmp (full_name flag) (full_name row.1)), later_differ n flag rows later.1)

list_later : (n m : ℕ) (flags : List Flag) → n < m → AllByRecursion (λ (row : Listed). n < row.0) (map (λ f. (m, f)) flags)
list_later n m [] before = tt
list_later n m (flag ∷ flags) before = (before, list_later n m flags before)

rows_later : (n m : ℕ) (lists : List (List Flag)) → n < m → AllByRecursion (λ (row : Listed). n < row.0) (rows_of m lists)
rows_later n m [] before = tt
rows_later n m (flags ∷ lists) before = every_joined (λ (row : Listed). n < row.0) (map (λ f. (m, f)) flags) (rows_of (m + 1) lists) (list_later n m flags before) (rows_later n (m + 1) lists (omega arith))

list_distinct : (n : ℕ) (flags : List Flag) (rest : List Listed) → T (is_sorted (slice_cmp nat_cmp) (map (λ f. (full_name f, f)) flags)) → AllByRecursion (λ (row : Listed). n < row.0) rest → IsDistinct alike rest → IsDistinct alike (map (λ f. (n, f)) flags ++ rest)
unfolding IsDistinct
list_distinct n [] rest sorted later distinct = distinct
list_distinct n (flag ∷ flags) rest sorted later distinct = (
  every_joined (λ row. alike (n, flag) row ≡ false) (map (λ f. (n, f)) flags) rest (below_differ n flag flags (first_true _ _ sorted)) (later_differ n flag rest later),
  list_distinct n flags rest (second_true _ _ sorted) later distinct,
)

pub rows_distinct : (n : ℕ) (lists : List (List Flag)) → All AreFlags lists → IsDistinct alike (rows_of n lists)
unfolding IsDistinct
rows_distinct n [] lawful = tt
rows_distinct n (flags ∷ lists) lawful =
    let are : AreFlags flags = lawful 0 flags (omega arith) in
    list_distinct n flags (rows_of (n + 1) lists) (T_of _ are.sorted) (rows_later n (n + 1) lists (omega arith))
    (rows_distinct (n + 1) lists (λ k d within. lawful (suc k) d (omega (arith, within))))

reversed_eq : (r : Ordering) → is_eq (ordering_reverse r) ≡ is_eq r
reversed_eq Less = refl
reversed_eq Equal = refl
reversed_eq Greater = refl

flips : (a b : Listed) → alike a b ≡ alike b a
flips a b = ap is_eq (key_total.antisymm (row_key a) (row_key b)) ∙ reversed_eq (row_order b a)

-- ---- rows in another order

-- rows of lists, moved
pub record AreRowsOf (lists : List (List Flag)) (rows : List Listed) : Type 0 where
  pub there : (i : ℕ) (flag : Flag) → Contains rows (i, flag) → StandsIn lists i flag
  pub back : (i : ℕ) (flag : Flag) → StandsIn lists i flag → Contains rows (i, flag)
  pub distinct : IsDistinct alike rows

pub rows_moved : (lists : List (List Flag)) (rows moved : List Listed) → All AreFlags lists → rows ≡ rows_of 0 lists → IsPermutation rows moved → AreRowsOf lists moved
rows_moved lists rows moved lawful are moves = record {
  there = λ i flag has.
      let found = in_rows 0 lists i flag (subst (λ (r : List Listed). Contains r (i, flag)) are (Contains-permutation moved rows (i, flag) (IsPermutation-sym rows moved moves) has)) in
      let same : found.0 ≡ i = omega (arith, found.1) in
      subst (λ (k : ℕ). StandsIn lists k flag) same found.2;
  back = λ i flag stands.
      let here = of_rows 0 lists i flag stands in
      let same : 0 + i ≡ i = omega arith in
      Contains-permutation rows moved (i, flag) moves (subst (λ (r : List Listed). Contains r (i, flag)) (sym are) (subst (λ (k : ℕ). Contains (rows_of 0 lists) (k, flag)) same here));
  distinct = IsDistinct-IsPermutation alike flips rows moved moves (subst (λ (r : List Listed). IsDistinct alike r) (sym are) (rows_distinct 0 lists lawful));
}

-- their flags are lawful
pub rows_lawful : (lists : List (List Flag)) (rows : List Listed) → All AreFlags lists → AreRowsOf lists rows → All (λ row. IsLawful row.1) rows
rows_lawful lists rows lawful are = λ k d within.
    let row = get_or rows k d in
    let has : Contains rows (row.0, row.1) = (k, within, get_or_default rows k row d within) in
    let stands = are.there row.0 row.1 has in
    let list : AreFlags stands.list = subst AreFlags (get_or_from_slice_get lists row.0 stands.list stands.list stands.at) (lawful row.0 stands.list (slice_get_within lists row.0 stands.list stands.at)) in
    let inside = stands.has in
    subst IsLawful inside.2 (list.each inside.0 row.1 inside.1)
