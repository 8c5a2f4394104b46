-- Rows in any order, and whether two of them have one key.
use Rattle.std.proofs.Common.{◌≡◌, ℕ, zero, suc, ◌+◌, ◌<◌, ◌≤◌, Bool, true, false, cond, T, List, [], ◌∷◌, map, length, get_or, count_by, IsPermutation, refl, sym, ap, ◌∙◌, true≢false, Ordering, Less, Equal, Greater, is_lt, is_eq, arith, add-one}
use Rattle.std.specs.Ordering.{eq_by_cmp, ordering_reverse}
use Rattle.std.specs.Cmp.{IsTotalOrder, tied_itself}
use Rattle.std.specs.FinMap.{is_sorted}
use Rattle.std.specs.FinMap.Entries.{below_all}
use Rattle.std.proofs.lemmas.List.Sums.{sum_by-cons}
use Rattle.std.proofs.lemmas.List.Sorted.{sum_by-IsPermutation}
use Rattle.acfg_base.specs.Places.{AreInOrder}
use Rattle.acfg_base.proofs.Rows.{T_of, first_true, second_true, Less_of, Equal_of}

-- neighbours of which neither is less have one key
tied : (r s : Ordering) → r ≡ ordering_reverse s → is_lt r ≡ false → is_lt s ≡ false → r ≡ Equal
tied Less s e a b = absurd (true≢false a)
tied Equal s e a b = refl
tied Greater Less e a b = absurd (true≢false b)
tied Greater Equal e a b = cc
tied Greater Greater e a b = cc

module _ {K Y : Type 0} {R : K → K → Ordering} (o : IsTotalOrder R) (key : Y → K) where
  -- whether a row has the key
  abbrev has_key : K → Y → Bool
  has_key q row = eq_by_cmp R q (key row)

  count_by-cons : (q : K) (y : Y) (ys : List Y) → count_by (has_key q) (y ∷ ys) ≡ cond (has_key q y) 1 0 + count_by (has_key q) ys
  count_by-cons q y ys = sum_by-cons (λ x. cond (has_key q x) 1 0) y ys

  some_counted : (q : K) (ys : List Y) (i : ℕ) (d : Y) → i < length ys → has_key q (get_or ys i d) ≡ true → 0 < count_by (has_key q) ys
  some_counted q [] i d within has = absurd (omega arith)
  some_counted q (y ∷ ys) zero d within has = let counted = count_by-cons q y ys ∙ ap (λ b. cond b 1 0 + count_by (has_key q) ys) has in omega (arith, counted)
  some_counted q (y ∷ ys) (suc i) d within has = omega (arith, count_by-cons q y ys, some_counted q ys i d (omega arith) has)

  two_counted : (q : K) (ys : List Y) (i : ℕ) (d : Y) → suc i < length ys → has_key q (get_or ys i d) ≡ true → has_key q (get_or ys (suc i) d) ≡ true → 1 < count_by (has_key q) ys
  two_counted q [] i d within has more = absurd (omega arith)
  two_counted q (y ∷ ys) zero d within has more =
      let counted = count_by-cons q y ys ∙ ap (λ b. cond b 1 0 + count_by (has_key q) ys) has in
      omega (arith, counted, some_counted q ys 0 d (omega arith) more)
  two_counted q (y ∷ ys) (suc i) d within has more = omega (arith, count_by-cons q y ys, two_counted q ys i d (omega arith) has more)

  -- two rows with the key, one behind the other
  pub far_counted : (q : K) (ys : List Y) (i j : ℕ) (d : Y) → i < j → j < length ys → has_key q (get_or ys i d) ≡ true → has_key q (get_or ys j d) ≡ true → 1 < count_by (has_key q) ys
  far_counted q [] i j d apart within has more = absurd (omega arith)
  far_counted q (y ∷ ys) i zero d apart within has more = absurd (omega arith)
  far_counted q (y ∷ ys) zero (suc j) d apart within has more =
      let counted = count_by-cons q y ys ∙ ap (λ b. cond b 1 0 + count_by (has_key q) ys) has in
      omega (arith, counted, some_counted q ys j d (omega arith) more)
  far_counted q (y ∷ ys) (suc i) (suc j) d apart within has more = omega (arith, count_by-cons q y ys, far_counted q ys i j d (omega arith) (omega arith) has more)

  none_counted : (q low : K) (ys : List Y) → R q low ≡ Equal → T (below_all R low (map (λ y. (key y, y)) ys)) → count_by (has_key q) ys ≡ 0
  none_counted q low [] same below = refl
  none_counted q low (y ∷ ys) same below =
      let apart : R q (key y) ≡ Less = o.congr q low (key y) same ∙ Less_of _ (first_true _ _ below) in
      let counted = count_by-cons q y ys ∙ ap (λ r. cond (is_eq r) 1 0 + count_by (has_key q) ys) apart in
      omega (arith, counted, none_counted q low ys same (second_true _ _ below))

  one_counted : (q : K) (ys : List Y) → T (is_sorted R (map (λ y. (key y, y)) ys)) → count_by (has_key q) ys ≤ 1
  one_counted q [] sorted = omega arith
  one_counted q (y ∷ ys) sorted =
      elim (has_key q y) as (λ b. has_key q y ≡ b → count_by (has_key q) (y ∷ ys) ≤ 1) [
        | true ↦ λ has.
            let rest = none_counted q (key y) ys (Equal_of _ has) (first_true _ _ sorted) in
            let counted = count_by-cons q y ys ∙ ap (λ b. cond b 1 0 + count_by (has_key q) ys) has in
            omega (arith, counted, rest)
        | false ↦ λ has.
            let counted = count_by-cons q y ys ∙ ap (λ b. cond b 1 0 + count_by (has_key q) ys) has in
            omega (arith, counted, one_counted q ys (second_true _ _ sorted))
      ] refl

  -- rows in order of rising keys have no twins, whatever order they came in
  pub no_twins : (xs ys : List Y) → IsPermutation xs ys → AreInOrder R key ys → (q : K) → 1 < count_by (has_key q) xs → ⊥
  no_twins xs ys moved sorted q many =
      let same = sum_by-IsPermutation (λ x. cond (has_key q x) 1 0) xs ys moved in
      omega (arith, many, same, one_counted q ys (T_of _ sorted))

  -- where one row, once they are sorted, isn't below the next, the two have one key
  pub twins_found : (xs ys : List Y) → IsPermutation xs ys → (k : ℕ) (d : Y) → k + 1 < length ys
      → is_lt (R (key (get_or ys k d)) (key (get_or ys (k + 1) d))) ≡ false → is_lt (R (key (get_or ys (k + 1) d)) (key (get_or ys k d))) ≡ false
      → 1 < count_by (has_key (key (get_or ys k d))) xs
  twins_found xs ys moved k d within stops sorted =
      let inside : suc k < length ys = omega arith in
      let more : get_or ys (k + 1) d ≡ get_or ys (suc k) d = ap (λ n. get_or ys n d) (add-one k) in
      let q = key (get_or ys k d) in
      let next = key (get_or ys (k + 1) d) in
      let same = tied _ _ (o.antisymm q next) stops sorted in
      let many = two_counted q ys k d inside (ap is_eq (tied_itself o q)) (ap (λ e. is_eq (R q (key e))) (sym more) ∙ ap is_eq same) in
      let counted = sum_by-IsPermutation (λ x. cond (has_key q x) 1 0) xs ys moved in
      omega (arith, many, counted)
