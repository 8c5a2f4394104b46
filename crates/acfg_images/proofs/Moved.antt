-- Lists in another order: what is found in them, which numbers and which finite maps they make.
use Rattle.std.proofs.Common.{◌≡◌, ◌≢◌, ℕ, zero, suc, ◌+◌, ◌<◌, ◌≤◌, Bool, true, false, cond, eqb, ltb, ◌||◌, List, [], ◌∷◌, ◌++◌, length, get_or, map, filter, Option, Some, None, option_map, Contains, IsPermutation, Ordering, refl, sym, ap, subst, ◌∙◌, ◌⊎◌, arith, inl, inr, append-nil}
use Rattle.std.specs.Prelude.{find, count_by, AllPairs, All}
use Rattle.std.specs.Bool.{Decides}
use Rattle.std.specs.Ordering.{eq_by_cmp}
use Rattle.std.specs.Cmp.{IsTotalOrder}
use Rattle.std.specs.List.{flat_map}
use Rattle.std.specs.FinMap as finite
use Rattle.std.specs.FinMap.{from_entries, IsAntisymmetric, same_map, get-from_entries}
use Rattle.std.proofs.lemmas.Bool.{cases_eq, cases_order}
use Rattle.std.proofs.lemmas.Bool.Decides.{nat_tests}
use Rattle.std.proofs.lemmas.Grind.{flat_map-append}
use Rattle.std.proofs.lemmas.List.{get_or-map, get_or_default, length-map}
use Rattle.std.proofs.lemmas.List.Sorted.{IsPermutation-refl, IsPermutation-sym, IsPermutation-trans, IsPermutation-cons, IsPermutation-middle, IsPermutation-append_left, Contains-permutation, length_permutation, sum_by-IsPermutation}
use Rattle.std.proofs.lemmas.Map.Keys.{IsDistinct-IsPermutation}
use Rattle.std.proofs.lemmas.Map.Made.{AllPairs-from_IsDistinct, IsDistinct-from_AllPairs}
use Rattle.acfg_base.proofs.Rows.{Equal_of}
use Rattle.acfg_images.specs.Words.{AreNumbered}
use Rattle.acfg_images.specs.Links.{NodeKey, bucket_of}
use Rattle.acfg_images.specs.Image.{numbers_below, by_bucket}
use Rattle.acfg_images.proofs.Linking.{bucket-low}
use Rattle.acfg_images.proofs.Pigeon.{AreNumbered-from_some, count_by-cons}
use Rattle.acfg_images.proofs.Sorting.{below, zero_below, all_below}

-- ---- keys that are apart

abbrev pub AreApart : {K : Type 0} → List K → Type 0
AreApart ks = AllPairs (λ a b. a ≢ b) ks

-- what is apart as seen by a function is apart
pub apart_seen : {A B : Type 0} (f : A → B) (xs : List A) → AreApart (map f xs) → AreApart xs
apart_seen f xs apart i j d lt within same =
    apart i j (f d) lt (omega (arith, within, length-map xs f)) (get_or-map f xs i d (f d) (omega arith) ∙ ap f same ∙ sym (get_or-map f xs j d (f d) within))

-- what has keys that are apart
pub apart_keys : {A B : Type 0} (f : A → B) (xs : List A) → AllPairs (λ a b. f a ≢ f b) xs → AreApart (map f xs)
apart_keys f [] apart i j d lt within same = absurd (omega arith)
apart_keys f (x ∷ xs) apart i j d lt within same =
    let count = length-map (x ∷ xs) f in
    let high : j < length (x ∷ xs) = omega (arith, within, count) in
    apart i j x lt high (sym (get_or-map f (x ∷ xs) i x d (omega arith)) ∙ same ∙ get_or-map f (x ∷ xs) j x d high)

pub apart_moved : {K : Type 0} (eq : K → K → Bool) → ((a b : K) → Decides (eq a b) (a ≡ b)) → ((a b : K) → eq a b ≡ eq b a) → (xs ys : List K) → IsPermutation xs ys → AreApart xs → AreApart ys
apart_moved eq same flips xs ys moved apart = AllPairs-from_IsDistinct same ys (IsDistinct-IsPermutation eq flips xs ys moved (IsDistinct-from_AllPairs same xs apart))

-- two items of one key are one
pub one_of_key : {A K : Type 0} (f : A → K) (xs : List A) → AreApart (map f xs) → (a b : A) → Contains xs a → Contains xs b → f a ≡ f b → a ≡ b
one_of_key f xs apart a b (i, i_in, a_is) (j, j_in, b_is) same = by (cases_order i j)
  where
    at : (k : ℕ) (x : _) → k < length xs → get_or xs k x ≡ x → get_or (map f xs) k (f a) ≡ f x
    at k x lt is = get_or-map f xs k x (f a) lt ∙ ap f is

    high : (k : ℕ) → k < length xs → k < length (map f xs)
    high k lt = omega (arith, lt, length-map xs f)

    by : (i ≡ j) ⊎ ((i < j) ⊎ (j < i)) → a ≡ b
    by (inl e) = sym a_is ∙ get_or_default xs i a b i_in ∙ ap (λ (k : ℕ). get_or xs k b) e ∙ b_is
    by (inr (inl lt)) = absurd (apart i j (f a) lt (high j j_in) (at i a i_in a_is ∙ same ∙ sym (at j b j_in b_is)))
    by (inr (inr lt)) = absurd (apart j i (f a) lt (high i i_in) (at j b j_in b_is ∙ sym same ∙ sym (at i a i_in a_is)))

-- ---- what a search finds

module _ {X : Type 0} (p : X → Bool) where
  further : (x : X) (xs : List X) (y : X) → Contains xs y → Contains (x ∷ xs) y
  further x xs y in_list = (suc in_list.0, omega (arith, in_list.1), in_list.2)

  found : (xs : List X) (y : X) → find p xs ≡ Some y → Contains xs y × (p y ≡ true)
  found [] y e = absurd cc
  found (x ∷ xs) y e = by (p x) refl (found xs y) e
    where
      by : (b : Bool) → p x ≡ b → (find p xs ≡ Some y → Contains xs y × (p y ≡ true)) → cond b (Some x) (find p xs) ≡ Some y → Contains (x ∷ xs) y × (p y ≡ true)
      by true is rest h = let same : x ≡ y = cc in ((0, omega arith, same), ap p (sym same) ∙ is)
      by false is rest h = let r = rest h in (further x xs y r.0, r.1)

  missed : (xs : List X) (k : ℕ) (y : X) → k < length xs → p (get_or xs k y) ≡ true → find p xs ≡ None → ⊥
  missed [] k y lt is none = omega arith
  missed (x ∷ xs) k y lt is none = by (p x) refl k lt is none (missed xs)
    where
      by : (b : Bool) → p x ≡ b → (k : ℕ) → k < length (x ∷ xs) → p (get_or (x ∷ xs) k y) ≡ true → cond b (Some x) (find p xs) ≡ None → ((k : ℕ) (y : X) → k < length xs → p (get_or xs k y) ≡ true → find p xs ≡ None → ⊥) → ⊥
      by true here k lt is none rest = cc
      by false here zero lt is none rest = let e : false ≡ true = sym here ∙ is in cc
      by false here (suc k) lt is none rest = rest k y (omega arith) is none

  -- of items among which at most one passes, a search finds the same in any order
  pub find_moved : (xs ys : List X) → IsPermutation xs ys → ((a b : X) → Contains xs a → Contains xs b → p a ≡ true → p b ≡ true → a ≡ b) → find p ys ≡ find p xs
  find_moved xs ys moved one = by (find p xs) refl (find p ys) refl
    where
      not_none : (zs : List X) (y : X) → Contains zs y → p y ≡ true → find p zs ≡ None → ⊥
      not_none zs y in_list is none = missed zs in_list.0 y in_list.1 (ap p in_list.2 ∙ is) none

      by : (r : Option X) → find p xs ≡ r → (s : Option X) → find p ys ≡ s → find p ys ≡ find p xs
      by None e None e' = e' ∙ sym e
      by None e (Some y) e' = let f = found ys y e' in absurd (not_none xs y (Contains-permutation ys xs y (IsPermutation-sym xs ys moved) f.0) f.1 e)
      by (Some x) e None e' = let f = found xs x e in absurd (not_none ys x (Contains-permutation xs ys x moved f.0) f.1 e')
      by (Some x) e (Some y) e' =
          let f = found xs x e in
          let g = found ys y e' in
          let same : y ≡ x = one y x (Contains-permutation ys xs y (IsPermutation-sym xs ys moved) g.0) f.0 g.1 f.1 in
          e' ∙ ap (λ (z : X). Some z) same ∙ sym e

  -- and an item that passes and is the only one
  pub find_own : (xs : List X) (x : X) → Contains xs x → p x ≡ true → ((a b : X) → Contains xs a → Contains xs b → p a ≡ true → p b ≡ true → a ≡ b) → find p xs ≡ Some x
  find_own xs x in_list is one = by (find p xs) refl
    where
      by : (r : Option X) → find p xs ≡ r → find p xs ≡ Some x
      by None e = absurd (missed xs in_list.0 x in_list.1 (ap p in_list.2 ∙ is) e)
      by (Some y) e = let f = found xs y e in e ∙ ap (λ (z : X). Some z) (one y x f.0 in_list f.1 is)

-- ---- maps

pub map_twice : {A B C : Type 0} (f : B → C) (g : A → B) (xs : List A) → map f (map g xs) ≡ map (λ x. f (g x)) xs
map_twice f g [] = refl
map_twice f g (x ∷ xs) = rw (map_twice f g xs) refl

pub All_seen_by : {A B : Type 0} (P : B → Type 0) (f : A → B) (xs : List A) → All P (map f xs) → All (λ x. P (f x)) xs
All_seen_by P f xs all i d lt = subst P (get_or-map f xs i d (f d) lt) (all i (f d) (omega (arith, lt, length-map xs f)))

module _ {K X : Type 0} {R : K → K → Ordering} (o : IsTotalOrder R) (exact : IsAntisymmetric R) where
  find_entry : (q : K) (es : List (K × X)) → finite.find R q es ≡ option_map (λ (e : K × X). e.1) (find (λ (e : K × X). eq_by_cmp R q e.0) es)
  find_entry q [] = refl
  find_entry q (e ∷ es) =
      elim (eq_by_cmp R q e.0) as (λ b. cond b (Some e.1) (finite.find R q es) ≡ option_map (λ (e : K × X). e.1) (cond b (Some e) (find (λ (e : K × X). eq_by_cmp R q e.0) es))) [ true ↦ refl | false ↦ find_entry q es ]

  -- entries whose keys are apart make one map in any order
  pub entries_moved : (es fs : List (K × X)) → IsPermutation es fs → AreApart (map (λ (e : K × X). e.0) es) → from_entries {R = R} fs ≡ from_entries {R = R} es
  entries_moved es fs moved apart = same_map o exact _ _ (λ q.
      get-from_entries o fs q ∙ find_entry q fs
      ∙ ap (option_map (λ (e : K × X). e.1)) (find_moved (λ (e : K × X). eq_by_cmp R q e.0) es fs moved (λ a b a_in b_in a_is b_is.
      one_of_key (λ (e : K × X). e.0) es apart a b a_in b_in (sym (exact q a.0 (Equal_of _ a_is)) ∙ exact q b.0 (Equal_of _ b_is))))
      ∙ sym (find_entry q es) ∙ sym (get-from_entries o es q))

-- ---- numbers

-- each number is one more than the one before it
abbrev pub CountUp : ℕ → List ℕ → Type 0
CountUp from [] = Unit {0}
CountUp from (n ∷ ns) = (n ≡ from) × CountUp (from + 1) ns

counted : (from k : ℕ) (ns : List ℕ) → CountUp from ns → from ≤ k → k < from + length ns → 1 ≤ count_by (λ n. eqb n k) ns
counted from k [] up low high = absurd (omega arith)
counted from k (n ∷ ns) up low high = by (counted (from + 1) k ns up.1) (cases_eq n k)
  where
    by : (from + 1 ≤ k → k < from + 1 + length ns → 1 ≤ count_by (λ n. eqb n k) ns) → (n ≡ k) ⊎ (n ≢ k) → 1 ≤ count_by (λ n. eqb n k) (n ∷ ns)
    by behind (inl same) =
        let test : eqb n k ≡ true = grind (arith, nat_tests) in
        let c : count_by (λ n. eqb n k) (n ∷ ns) ≡ 1 + count_by (λ n. eqb n k) ns = count_by-cons (λ n. eqb n k) n ns ∙ ap (λ (b : Bool). cond b 1 0 + count_by (λ n. eqb n k) ns) test in
        omega (arith, c)
    by behind (inr other) =
        let here = up.0 in
        let rest = behind (omega (arith, here, low, other)) (omega (arith, high)) in
        omega (arith, rest, count_by-cons (λ n. eqb n k) n ns)

pub CountUp-numbered : (ns : List ℕ) → CountUp 0 ns → AreNumbered ns
CountUp-numbered ns up = AreNumbered-from_some ns (λ k lt. counted 0 k ns up (omega arith) (omega arith))

-- numbers that count up are apart
CountUp-at : (from : ℕ) (ns : List ℕ) → CountUp from ns → (i d : ℕ) → i < length ns → get_or ns i d ≡ from + i
CountUp-at from [] up i d lt = absurd (omega arith)
CountUp-at from (n ∷ ns) up zero d lt = let here = up.0 in omega arith
CountUp-at from (n ∷ ns) up (suc i) d lt = omega (arith, CountUp-at (from + 1) ns up.1 i d (omega arith))

pub CountUp-apart : (ns : List ℕ) → CountUp 0 ns → AreApart ns
CountUp-apart ns up i j d lt within same = omega (arith, lt, within, CountUp-at 0 ns up i d (omega arith), CountUp-at 0 ns up j d within, same)

pub AreNumbered-moved : (ms ns : List ℕ) → IsPermutation ms ns → AreNumbered ms → AreNumbered ns
AreNumbered-moved ms ns moved numbered k lt = sum_by-IsPermutation (λ n. cond (eqb n k) 1 0) ms ns moved ∙ numbered k (omega (arith, lt, length_permutation ms ns moved))

-- ---- nodes in order of their buckets

-- what passes one of two tests that exclude each other
split_moved : {X : Type 0} (p q r : X → Bool) → ((x : X) → r x ≡ (p x || q x)) → ((x : X) → p x ≡ true → q x ≡ false) → (xs : List X) → IsPermutation (filter r xs) (filter p xs ++ filter q xs)
split_moved p q r is apart [] = IsPermutation-refl []
split_moved p q r is apart (x ∷ xs) = by (p x) refl (q x) refl (split_moved p q r is apart xs)
  where
    by : (a : Bool) → p x ≡ a → (b : Bool) → q x ≡ b → IsPermutation (filter r xs) (filter p xs ++ filter q xs) → IsPermutation (filter r (x ∷ xs)) (filter p (x ∷ xs) ++ filter q (x ∷ xs))
    by true in_p true in_q rest = let e : true ≡ false = sym in_q ∙ apart x in_p in absurd cc
    by true in_p false out rest =
        let test : r x ≡ true = is x ∙ rw in_p refl in
        rw (test, in_p, out) (IsPermutation-cons x _ _ rest)
    by false out true in_q rest =
        let test : r x ≡ true = is x ∙ rw (out, in_q) refl in
        rw (test, out, in_q) (IsPermutation-trans _ (x ∷ (filter p xs ++ filter q xs)) _ (IsPermutation-cons x _ _ rest) (IsPermutation-sym _ _ (IsPermutation-middle (filter p xs) x (filter q xs))))
    by false out false out' rest =
        let test : r x ≡ false = is x ∙ rw (out, out') refl in
        rw (test, out, out') rest

module _ {N : Type 0} (key : N → NodeKey) (count : ℕ) where
  bucket : N → ℕ
  bucket node = bucket_of count (key node)

  below_moved : (nodes : List N) (n : ℕ) → IsPermutation (below bucket n nodes) (flat_map (λ b. filter (λ node. eqb (bucket node) b) nodes) (numbers_below n))
  below_moved nodes zero = subst (λ (l : List N). IsPermutation l []) (sym (zero_below bucket nodes)) (IsPermutation-refl [])
  below_moved nodes (suc n) =
      let parts = λ (b : ℕ). filter (λ node. eqb (bucket node) b) nodes in
      let whole : flat_map parts (numbers_below n ++ n ∷ []) ≡ flat_map parts (numbers_below n) ++ parts n = flat_map-append parts (numbers_below n) (n ∷ []) ∙ rw (append-nil (parts n)) refl in
      subst (IsPermutation (below bucket (suc n) nodes)) (sym whole) (IsPermutation-trans _ (below bucket n nodes ++ parts n) _
      (split_moved (λ node. ltb (bucket node) n) (λ node. eqb (bucket node) n) (λ node. ltb (bucket node) (suc n)) (λ node. either (bucket node) n) (λ node. not_both (bucket node) n) nodes)
      (IsPermutation-append_left (parts n) _ _ (below_moved nodes n)))
    where
      either : (b n : ℕ) → ltb b (suc n) ≡ (ltb b n || eqb b n)
      either b n = grind (arith, nat_tests)

      not_both : (b n : ℕ) → ltb b n ≡ true → eqb b n ≡ false
      not_both b n lt = grind (arith, nat_tests)

  pub by_bucket_moved : 0 < count → (nodes : List N) → IsPermutation nodes (by_bucket key count nodes)
  unfolding bucket
  by_bucket_moved some nodes =
      subst (λ (l : List N). IsPermutation l (by_bucket key count nodes)) (all_below bucket count nodes (λ i d lt. bucket-low count key (get_or nodes i d) _ some refl)) (below_moved nodes count)
