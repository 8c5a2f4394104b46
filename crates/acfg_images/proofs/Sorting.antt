-- Nodes sorted by their buckets, those of one bucket as they stood, are the nodes bucket by bucket.
use Rattle.std.proofs.Common.{◌≡◌, ℕ, zero, suc, ◌<◌, ◌≤◌, Bool, true, false, eqb, ltb, List, [], ◌∷◌, ◌++◌, length, get_or, map, filter, All, refl, sym, ap, ◌∙◌, append-nil, arith}
use Rattle.std.specs.List.{flat_map}
use Rattle.std.specs.List.Sorted.{IsPermutation, IsNonDecreasingBy, IsSortedByKey, IsStableByKey, ties}
use Rattle.std.specs.Ordering.{is_lt, nat_cmp}
use Rattle.std.proofs.lemmas.Bool.Decides.{nat_tests}
use Rattle.std.proofs.lemmas.Grind.{flat_map-append}
use Rattle.std.proofs.lemmas.List.{map-append}
use Rattle.std.proofs.lemmas.List.Sorted.{IsNonDecreasingBy-from_sort}
use Rattle.acfg_images.specs.Links.{NodeKey, bucket_of}
use Rattle.acfg_images.specs.Image.{numbers_below, by_bucket}

module _ {R : Type 0} (bucket : R → ℕ) where
  abbrev pub below : ℕ → List R → List R
  below n rows = filter (λ row. ltb (bucket row) n) rows

  abbrev pub within : ℕ → List R → List R
  within n rows = filter (λ row. eqb (bucket row) n) rows

  none_below : (n : ℕ) (rows : List R) → ((i : ℕ) (d : R) → i < length rows → n ≤ bucket (get_or rows i d)) → below n rows ≡ []
  none_below n [] high = refl
  none_below n (row ∷ rows) high =
      let least : n ≤ bucket row = high 0 row (omega arith) in
      let test : ltb (bucket row) n ≡ false = grind (arith, nat_tests) in
      rw test (none_below n rows (λ i d lt. high (suc i) d (omega arith)))

  pub all_below : (n : ℕ) (rows : List R) → ((i : ℕ) (d : R) → i < length rows → bucket (get_or rows i d) < n) → below n rows ≡ rows
  all_below n [] low = refl
  all_below n (row ∷ rows) low =
      let most : bucket row < n = low 0 row (omega arith) in
      let test : ltb (bucket row) n ≡ true = grind (arith, nat_tests) in
      rw test (ap (λ (rs : List R). row ∷ rs) (all_below n rows (λ i d lt. low (suc i) d (omega arith))))

  pub zero_below : (rows : List R) → below 0 rows ≡ []
  zero_below rows = none_below 0 rows (λ i d lt. omega arith)

  -- of rows that don't fall, those of a bucket stand behind those of the ones below it
  one_more : (n : ℕ) (rows : List R) → IsNonDecreasingBy bucket rows → below n rows ++ within n rows ≡ below (suc n) rows
  one_more n [] sorted = refl
  one_more n (row ∷ rows) sorted = by (one_more n rows (λ i j d le lt. sorted (suc i) (suc j) d (omega arith) (omega arith))) (ltb (bucket row) n) refl (eqb (bucket row) n) refl
    where
      behind : (i : ℕ) (d : R) → i < length rows → bucket row ≤ bucket (get_or rows i d)
      behind i d lt = sorted 0 (suc i) d (omega arith) (omega arith)

      by : below n rows ++ within n rows ≡ below (suc n) rows → (l : Bool) → ltb (bucket row) n ≡ l → (e : Bool) → eqb (bucket row) n ≡ e → below n (row ∷ rows) ++ within n (row ∷ rows) ≡ below (suc n) (row ∷ rows)
      by rest true lt true same = absurd (grind (arith, nat_tests))
      by rest true lt false apart =
          let next : ltb (bucket row) (suc n) ≡ true = grind (arith, nat_tests) in
          rw (lt, apart, next) (ap (λ (rs : List R). row ∷ rs) rest)
      by rest false ge true same =
          let next : ltb (bucket row) (suc n) ≡ true = grind (arith, nat_tests) in
          let is : bucket row ≡ n = grind (arith, nat_tests) in
          let none : below n rows ≡ [] = none_below n rows (λ i d lt. let h = behind i d lt in omega arith) in
          rw (ge, same, next, none) (ap (λ (rs : List R). row ∷ rs) (rw none at rest))
      by rest false ge false apart =
          let next : ltb (bucket row) (suc n) ≡ false = grind (arith, nat_tests) in
          rw (ge, apart, next) rest

  parts_below : (rows : List R) → IsNonDecreasingBy bucket rows → (n : ℕ) → flat_map (λ b. within b rows) (numbers_below n) ≡ below n rows
  parts_below rows sorted zero = sym (zero_below rows)
  parts_below rows sorted (suc n) =
      flat_map-append (λ b. within b rows) (numbers_below n) (n ∷ [])
      ∙ rw (parts_below rows sorted n, append-nil (within n rows)) (one_more n rows sorted)

  -- rows sorted by bucket are the rows bucket by bucket
  parts_all : (rows : List R) (n : ℕ) → IsNonDecreasingBy bucket rows → ((i : ℕ) (d : R) → i < length rows → bucket (get_or rows i d) < n) → flat_map (λ b. within b rows) (numbers_below n) ≡ rows
  parts_all rows n sorted low = parts_below rows sorted n ∙ all_below n rows low

  ties_is : (x y : R) → ties (λ a b. is_lt (nat_cmp (bucket a) (bucket b))) x y ≡ eqb (bucket y) (bucket x)
  ties_is x y = grind (arith, nat_tests)

  filter_same : (p q : R → Bool) → ((x : R) → p x ≡ q x) → (rows : List R) → filter p rows ≡ filter q rows
  filter_same p q same [] = refl
  filter_same p q same (row ∷ rows) = rw (same row, filter_same p q same rows) refl

  -- a stable sort keeps the rows of each bucket
  kept : (make : ℕ → R) → ((b : ℕ) → bucket (make b) ≡ b) → (old new : List R) → IsStableByKey bucket nat_cmp old new → (b : ℕ) → within b new ≡ within b old
  kept make made old new stable b =
      let tie : (x : R) → ties (λ a c. is_lt (nat_cmp (bucket a) (bucket c))) (make b) x ≡ eqb (bucket x) b = λ x. ties_is (make b) x ∙ ap (λ (n : ℕ). eqb (bucket x) n) (made b) in
      sym (filter_same _ _ tie new) ∙ stable (make b) ∙ filter_same _ _ tie old

  flat_map_same : {X : Type 0} (f g : ℕ → List X) → ((b : ℕ) → f b ≡ g b) → (bs : List ℕ) → flat_map f bs ≡ flat_map g bs
  flat_map_same f g same [] = refl
  flat_map_same f g same (b ∷ bs) = rw (same b, flat_map_same f g same bs) refl

  module _ {N : Type 0} (view : R → N) (key : N → NodeKey) (count : ℕ) where
    abbrev pub HasBucketOf : R → Type 0
    HasBucketOf row = bucket row ≡ bucket_of count (key (view row))

    filter_seen : (rows : List R) → All HasBucketOf rows → (b : ℕ) → map view (within b rows) ≡ filter (λ node. eqb (bucket_of count (key node)) b) (map view rows)
    filter_seen [] has b = refl
    filter_seen (row ∷ rows) has b = by (filter_seen rows (λ i d lt. has (suc i) d (omega arith)) b) (has 0 row (omega arith)) (eqb (bucket row) b) refl
      where
        by : map view (within b rows) ≡ filter (λ node. eqb (bucket_of count (key node)) b) (map view rows) → HasBucketOf row → (t : Bool) → eqb (bucket row) b ≡ t
            → map view (within b (row ∷ rows)) ≡ filter (λ node. eqb (bucket_of count (key node)) b) (map view (row ∷ rows))
        by rest own true test =
            let other : eqb (bucket_of count (key (view row))) b ≡ true = rw own at test in
            rw (test, other) (ap (λ (ns : List N). view row ∷ ns) rest)
        by rest own false test =
            let other : eqb (bucket_of count (key (view row))) b ≡ false = rw own at test in
            rw (test, other) rest

    map_parts : (rows : List R) → All HasBucketOf rows → (bs : List ℕ) → map view (flat_map (λ b. within b rows) bs) ≡ flat_map (λ b. filter (λ node. eqb (bucket_of count (key node)) b) (map view rows)) bs
    map_parts rows has [] = refl
    map_parts rows has (b ∷ bs) = map-append view (within b rows) _ ∙ rw (filter_seen rows has b, map_parts rows has bs) refl

    pub sorted_is : (make : ℕ → R) → ((b : ℕ) → bucket (make b) ≡ b) → (old new : List R) → IsSortedByKey bucket nat_cmp new → IsStableByKey bucket nat_cmp old new → IsPermutation old new → ((i : ℕ) (d : R) → i < length new → bucket (get_or new i d) < count) → All HasBucketOf old
        → map view new ≡ by_bucket key count (map view old)
    sorted_is make made old new sorted stable moved low has =
        let all = parts_all new count (IsNonDecreasingBy-from_sort bucket new sorted) low in
        ap (map view) (sym all ∙ flat_map_same (λ b. within b new) (λ b. within b old) (kept make made old new stable) (numbers_below count)) ∙ map_parts old has (numbers_below count)
