-- Two sorted lists of the same elements are one list, where only equal elements tie.
use Rattle.std.proofs.Common.{◌≡◌, ℕ, suc, ◌+◌, ◌≤◌, List, [], ◌∷◌, get_or, refl, sym, ap, ◌∙◌, arith, Bool, true, false, cond, Ordering, Less, Equal, Greater, add-one}
use Rattle.std.specs.List.{sum_by, All}
use Rattle.std.specs.List.Sorted.{IsPermutation, IsSorted}
use Rattle.std.specs.Cmp.{IsTotalOrder}
use Rattle.std.specs.Cmp.Lexicographic.{slice_cmp}
use Rattle.std.specs.FinMap.{IsAntisymmetric, nat_cmp-IsAntisymmetric, slice_cmp-IsAntisymmetric}
use Rattle.std.specs.Ordering.{is_lt, nat_cmp, ordering_reverse}
use Rattle.std.proofs.lemmas.Cmp.{nat_list_cmp_total}
use Rattle.std.proofs.lemmas.List.Sorted.{sum_by-IsPermutation, sorted_far, ranks_by}
use Rattle.std.proofs.lemmas.List.Sums.{sum_by-cons, sum_by-le}

-- every measure has one sum over both
abbrev SumsAlike : {X : Type 0} → List X → List X → Type 0
SumsAlike {X} ys zs = (f : X → ℕ) → sum_by f ys ≡ sum_by f zs

-- where neither is less, they tie
tied : (r s : Ordering) → r ≡ ordering_reverse s → is_lt r ≡ false → is_lt s ≡ false → r ≡ Equal
tied Less s is below above = cc
tied Equal s is below above = refl
tied Greater Less is below above = cc
tied Greater Equal is below above = cc
tied Greater Greater is below above = cc

-- a test as a number
abbrev number : Bool → ℕ
number b = cond b 1 0

counted : (b : Bool) → number b ≡ 0 → b ≡ false
counted true none = absurd (omega arith)
counted false none = refl

not_counted : (b : Bool) → b ≡ false → number b ≤ 0
not_counted true fails = cc
not_counted false fails = omega arith

module _ {X : Type 0} (cmp : X → X → Ordering) (total : IsTotalOrder cmp) (only : IsAntisymmetric cmp) where
  -- whether an element is less than another, as a number
  abbrev less : X → X → ℕ
  less z x = number (is_lt (cmp x z))

  IsSorted-tail : (x : X) (xs : List X) → IsSorted cmp (x ∷ xs) → IsSorted cmp xs
  IsSorted-tail x xs sorted k d low within =
      let next : get_or (x ∷ xs) (suc k + 1) d ≡ get_or xs (k + 1) d = rw add-one (rw add-one refl) in
      (λ j. is_lt (cmp (sym next j) (get_or xs k d))) ∙ sorted (suc k) d (omega arith) (omega arith)

  -- no element of a sorted list is less than its first
  none_less : (z : X) (zs : List X) → IsSorted cmp (z ∷ zs) → sum_by (less z) (z ∷ zs) ≡ 0
  none_less z zs sorted =
      let each : All (λ x. less z x ≤ 0) (z ∷ zs) = λ k d within. not_counted (is_lt (cmp (get_or (z ∷ zs) k d) z)) (sorted_far (λ x y. is_lt (cmp x y)) (ranks_by total (λ x. x)) (z ∷ zs) sorted 0 k d (omega arith) within) in
      omega (arith, sum_by-le (less z) 0 (z ∷ zs) each)

  -- so the first of a list of the same elements isn't
  first_not_less : (y z : X) (ys zs : List X) → SumsAlike (y ∷ ys) (z ∷ zs) → IsSorted cmp (z ∷ zs) → is_lt (cmp y z) ≡ false
  first_not_less y z ys zs alike sorted = counted (is_lt (cmp y z)) (omega (arith, none_less z zs sorted, alike (less z), sum_by-cons (less z) y ys))

  one_sorted : (ys zs : List X) → SumsAlike ys zs → IsSorted cmp ys → IsSorted cmp zs → ys ≡ zs
  one_sorted [] [] alike rising sorted = refl
  one_sorted [] (z ∷ zs) alike rising sorted = absurd (omega (arith, alike (λ x. 1), sum_by-cons (λ x. 1) z zs))
  one_sorted (y ∷ ys) [] alike rising sorted = absurd (omega (arith, alike (λ x. 1), sum_by-cons (λ x. 1) y ys))
  one_sorted (y ∷ ys) (z ∷ zs) alike rising sorted =
      let ties = tied (cmp y z) (cmp z y) (total.antisymm y z) (first_not_less y z ys zs alike sorted) (first_not_less z y zs ys (λ f. sym (alike f)) rising) in
      let first : y ≡ z = only y z ties in
      let rest : SumsAlike ys zs = λ f. omega (arith, alike f, sum_by-cons f y ys, sum_by-cons f z zs, ap f first) in
      let behind = one_sorted ys zs rest (IsSorted-tail y ys rising) (IsSorted-tail z zs sorted) in
      λ j. first j ∷ behind j

  pub sorted_unique : (xs ys zs : List X) → IsPermutation xs ys → IsPermutation xs zs → IsSorted cmp ys → IsSorted cmp zs → ys ≡ zs
  sorted_unique xs ys zs same other rising sorted = one_sorted ys zs (λ f. sum_by-IsPermutation f xs ys same ∙ sym (sum_by-IsPermutation f xs zs other)) rising sorted

-- texts in the order of their bytes
pub sorted_texts_unique : (texts ys zs : List (List ℕ)) → IsPermutation texts ys → IsPermutation texts zs → IsSorted (slice_cmp nat_cmp) ys → IsSorted (slice_cmp nat_cmp) zs → ys ≡ zs
sorted_texts_unique = sorted_unique (slice_cmp nat_cmp) nat_list_cmp_total (slice_cmp-IsAntisymmetric nat_cmp-IsAntisymmetric)
