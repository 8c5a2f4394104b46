-- Rows in order of their keys, and the finite maps that they make.
use Rattle.std.proofs.Common.{◌≡◌, ◌≢◌, ℕ, zero, suc, ◌+◌, ◌<◌, Bool, true, false, cond, ◌&&◌, T, List, [], ◌∷◌, map, filter_map, length, get_or, set, insert, Option, Some, None, option_map, option_and_then, Result, Ok, Err, MatchBool, IsSortedBy, IsPermutation, Contains, refl, sym, ap, ap₂, subst, ◌∙◌, ⊎_elim, add-one, true≢false, Ordering, Less, Equal, Greater, is_lt, is_eq, arith}
use Rattle.std.specs.Ordering.{ordering_reverse, eq_by_cmp}
use Rattle.std.specs.Cmp.{IsTotalOrder, tied_back, tied_itself, eq_by_cmp_equiv}
use Rattle.std.specs.FinMap as finite
use Rattle.std.specs.FinMap.{find, is_sorted, entries, from_entries, IsAntisymmetric, same_map, get-from_entries, get-from_sorted, get-insert, get-remove, entries-from_sorted}
use Rattle.std.specs.FinMap.Entries.{below_all, put, by_order, find-put, is_sorted-put}
use Rattle.std.specs.List.{cons_option}
use Rattle.std.specs.List.Sorted.{IsBinarySearchResult, IsSearchInRange}
use Rattle.std.proofs.lemmas.Bool.{cases_lt}
use Rattle.std.proofs.lemmas.List.{get_or_default, length-map}
use Rattle.std.proofs.lemmas.List.Sorted.{searchable_from_sorted, Contains-permutation, IsPermutation-sym}
use Rattle.std.proofs.Math.Seq.{map-set_same}
use Rattle.acfg_base.specs.Places.{AreInOrder, row_at, StandsAt, WouldStandAt, IsPlace, map_of, map_where}

both_true : (a b : Bool) → T a → T b → T (a && b)
both_true true b p q = q
both_true false b p q = p

pub first_true : (a b : Bool) → T (a && b) → T a
first_true true b p = tt
first_true false b p = p

pub second_true : (a b : Bool) → T (a && b) → T b
second_true true b p = p
second_true false b p = absurd p

pub Less_of : (r : Ordering) → T (is_lt r) → r ≡ Less
Less_of Less p = refl
Less_of Equal p = absurd p
Less_of Greater p = absurd p

pub true_of : (b : Bool) → T b → b ≡ true
true_of true p = refl
true_of false p = absurd p

pub T_of : (b : Bool) → b ≡ true → T b
T_of b e = subst T (sym e) tt

pub match_bool : {P Q P' Q' : Type 0} (b : Bool) → (P → P') → (Q → Q') → MatchBool b P Q → MatchBool b P' Q'
match_bool true f g p = f p
match_bool false f g q = g q

pub Less_of_true : (r : Ordering) → true ≡ is_lt r → r ≡ Less
Less_of_true r e = Less_of r (T_of _ (sym e))

pub Equal_of : (r : Ordering) → is_eq r ≡ true → r ≡ Equal
Equal_of Less e = absurd (true≢false (sym e))
Equal_of Equal e = refl
Equal_of Greater e = absurd (true≢false (sym e))

same_Some : {X : Type 0} {x y : X} → Some x ≡ Some y → x ≡ y
same_Some e = cc

pub chosen : {A B : Type 0} (f : A → B) (b : Bool) (x y : A) → f (cond b x y) ≡ cond b (f x) (f y)
chosen f true x y = refl
chosen f false x y = refl

Contains-further : {Y : Type 0} (x : Y) (ys : List Y) (y : Y) → Contains ys y → Contains (x ∷ ys) y
Contains-further x ys y in_list = (suc in_list.0, omega (arith, in_list.1), in_list.2)

Contains-rest : {Y : Type 0} (x : Y) (ys : List Y) (y : Y) → x ≢ y → Contains (x ∷ ys) y → Contains ys y
Contains-rest x ys y apart (zero, within, is) = absurd (apart is)
Contains-rest x ys y apart (suc k, within, is) = (k, omega arith, is)

module _ {K Y : Type 0} {R : K → K → Ordering} (o : IsTotalOrder R) (key : Y → K) where
  -- rows by their keys
  abbrev keyed_rows : List Y → List (K × Y)
  keyed_rows = map (λ y. (key y, y))

  Greater_back : (x y : K) → R x y ≡ Less → R y x ≡ Greater
  Greater_back x y e = o.antisymm y x ∙ ap ordering_reverse e

  Less_back : (x y : K) → R x y ≡ Greater → R y x ≡ Less
  Less_back x y e = o.antisymm y x ∙ ap ordering_reverse e

  -- a key that is below another one is below all that come behind that one
  below_all_further : (x y : K) (es : List (K × Y)) → R x y ≡ Less → T (below_all R y es) → T (below_all R x es)
  below_all_further x y [] p h = tt
  below_all_further x y (e ∷ es) p h =
      both_true _ _ (subst (λ r. T (is_lt r)) (sym (o.trans x y e.0 p (Less_of _ (first_true _ _ h)))) tt) (below_all_further x y es p (second_true _ _ h))

  below_at : (x : K) (ys : List Y) → T (below_all R x (keyed_rows ys)) → (i : ℕ) (d : Y) → i < length ys → R x (key (get_or ys i d)) ≡ Less
  below_at x [] h i d within = absurd (omega arith)
  below_at x (y ∷ ys) h zero d within = Less_of _ (first_true _ _ h)
  below_at x (y ∷ ys) h (suc i) d within = below_at x ys (second_true _ _ h) i d (omega arith)

  -- the keys of rows in order rise
  rises : (ys : List Y) → T (is_sorted R (keyed_rows ys)) → (k : ℕ) (d : Y) → suc k < length ys → R (key (get_or ys k d)) (key (get_or ys (suc k) d)) ≡ Less
  rises [] h k d within = absurd (omega arith)
  rises (y ∷ ys) h zero d within = below_at (key y) ys (first_true _ _ h) 0 d (omega arith)
  rises (y ∷ ys) h (suc k) d within = rises ys (second_true _ _ h) k d (omega arith)

  -- and rows whose keys rise are in order
  in_order : (ys : List Y) → ((k : ℕ) (d : Y) → suc k < length ys → R (key (get_or ys k d)) (key (get_or ys (suc k) d)) ≡ Less) → T (is_sorted R (keyed_rows ys))
  in_order [] steps = tt
  in_order (y ∷ []) steps = tt
  in_order (y ∷ z ∷ ys) steps =
      let rest = in_order (z ∷ ys) (λ k d within. steps (suc k) d (omega arith)) in
      let step : R (key y) (key z) ≡ Less = steps 0 y (omega arith) in
      both_true _ _ (both_true _ _ (subst (λ r. T (is_lt r)) (sym step) tt) (below_all_further (key y) (key z) (keyed_rows ys) step (first_true _ _ rest))) rest

  pub AreInOrder-from_steps : (ys : List Y) → ((k : ℕ) (d : Y) → k + 1 < length ys → R (key (get_or ys k d)) (key (get_or ys (k + 1) d)) ≡ Less) → AreInOrder R key ys
  AreInOrder-from_steps ys steps = true_of _ (in_order ys (λ k d within. ap (λ n. R (key (get_or ys k d)) (key (get_or ys n d))) (sym (add-one k)) ∙ steps k d (omega arith)))

  -- rows with the same keys, one by one, are in order alike
  pub AreInOrder-same_keys : {Z : Type 0} (other : Z → K) (ys : List Y) (zs : List Z) → map key ys ≡ map other zs → is_sorted R (keyed_rows ys) ≡ is_sorted R (map (λ z. (other z, z)) zs)
  AreInOrder-same_keys other ys zs e = by_keys key ys ∙ ap (λ ks. is_sorted R (map (λ k. (k, k)) ks)) e ∙ sym (by_keys other zs)
    where
      below_keys : {W : Type 0} (of : W → K) (x : K) (ws : List W) → below_all R x (map (λ w. (of w, w)) ws) ≡ below_all R x (map (λ k. (k, k)) (map of ws))
      below_keys of x [] = refl
      below_keys of x (w ∷ ws) = ap (λ b. is_lt (R x (of w)) && b) (below_keys of x ws)

      by_keys : {W : Type 0} (of : W → K) (ws : List W) → is_sorted R (map (λ w. (of w, w)) ws) ≡ is_sorted R (map (λ k. (k, k)) (map of ws))
      by_keys of [] = refl
      by_keys of (w ∷ ws) = ap₂ ◌&&◌ (below_keys of (of w) ws) (by_keys of ws)

  -- rows that are made of others
  pub AreInOrder-map : {Z : Type 0} (g : Z → Y) (zs : List Z) → AreInOrder R (λ z. key (g z)) zs → AreInOrder R key (map g zs)
  AreInOrder-map {Z} g zs h = same_order zs ∙ h
    where
      same_below : (x : K) (zs : List Z) → below_all R x (keyed_rows (map g zs)) ≡ below_all R x (map (λ z. (key (g z), z)) zs)
      same_below x [] = refl
      same_below x (z ∷ zs) = ap (λ b. is_lt (R x (key (g z))) && b) (same_below x zs)

      same_order : (zs : List Z) → is_sorted R (keyed_rows (map g zs)) ≡ is_sorted R (map (λ z. (key (g z), z)) zs)
      same_order [] = refl
      same_order (z ∷ zs) = ap₂ ◌&&◌ (same_below (key (g z)) zs) (same_order zs)

  pub row_at-map : {Z : Type 0} (g : Z → Y) (zs : List Z) (q : K) → row_at R key (map g zs) q ≡ option_map g (row_at R (λ z. key (g z)) zs q)
  row_at-map g [] q = refl
  row_at-map g (z ∷ zs) q = elim (eq_by_cmp R q (key (g z))) as (λ b. cond b (Some (g z)) (row_at R key (map g zs) q) ≡ option_map g (cond b (Some z) (row_at R (λ z. key (g z)) zs q))) [ true ↦ refl | false ↦ row_at-map g zs q ]

  -- and rows that are made of some others
  module _ {Z V : Type 0} (of : Z → K) (f : Z → Option V) (g : Z → V → Y) (same : (z : Z) (v : V) → key (g z v) ≡ of z) where
    some_below : (x : K) (zs : List Z) → T (below_all R x (map (λ z. (of z, z)) zs)) → T (below_all R x (keyed_rows (filter_map (λ z. option_map (g z) (f z)) zs)))
    some_below x [] h = tt
    some_below x (z ∷ zs) h =
        let rest = some_below x zs (second_true _ _ h) in
        elim (f z) as (λ v. T (below_all R x (keyed_rows (cons_option (option_map (g z) v) (filter_map (λ z. option_map (g z) (f z)) zs))))) [
          | None ↦ rest
          | Some v ↦ both_true _ _ (subst (λ k. T (is_lt (R x k))) (sym (same z v)) (first_true _ _ h)) rest
        ]

    some_sorted : (zs : List Z) → T (is_sorted R (map (λ z. (of z, z)) zs)) → T (is_sorted R (keyed_rows (filter_map (λ z. option_map (g z) (f z)) zs)))
    some_sorted [] h = tt
    some_sorted (z ∷ zs) h =
        let rest = some_sorted zs (second_true _ _ h) in
        elim (f z) as (λ v. T (is_sorted R (keyed_rows (cons_option (option_map (g z) v) (filter_map (λ z. option_map (g z) (f z)) zs))))) [
          | None ↦ rest
          | Some v ↦ both_true _ _ (subst (λ k. T (below_all R k (keyed_rows (filter_map (λ z. option_map (g z) (f z)) zs)))) (sym (same z v)) (some_below (of z) zs (first_true _ _ h))) rest
        ]

    pub AreInOrder-filter_map : (zs : List Z) → AreInOrder R of zs → AreInOrder R key (filter_map (λ z. option_map (g z) (f z)) zs)
    AreInOrder-filter_map zs h = true_of _ (some_sorted zs (T_of _ h))

    pub map_of-filter_map : (value : Y → V) → ((z : Z) (v : V) → value (g z v) ≡ v) → (zs : List Z) → map_of R key (filter_map (λ z. option_map (g z) (f z)) zs) value ≡ map_where R of zs f
    map_of-filter_map value back zs = ap from_entries (pairs zs)
      where
        pairs : (zs : List Z) → map {B = K × V} (λ y. (key y, value y)) (filter_map (λ z. option_map (g z) (f z)) zs) ≡ filter_map (λ z. option_map (λ v. (of z, v)) (f z)) zs
        pairs [] = refl
        pairs (z ∷ zs) = elim (f z) as (λ v. map {B = K × V} (λ y. (key y, value y)) (cons_option (option_map (g z) v) (filter_map (λ z. option_map (g z) (f z)) zs)) ≡ cons_option (option_map (λ v. (of z, v)) v) (filter_map (λ z. option_map (λ v. (of z, v)) (f z)) zs)) [
          | None ↦ pairs zs
          | Some v ↦ λ i. (same z v i, back z v i) ∷ pairs zs i
        ]

  pub map_of-map : {Z X : Type 0} (g : Z → Y) (value : Y → X) (zs : List Z) → map_of R key (map g zs) value ≡ map_of R (λ z. key (g z)) zs (λ z. value (g z))
  map_of-map {Z} {X} g value zs = ap from_entries (pairs zs)
    where
      pairs : (zs : List Z) → map {B = K × X} (λ y. (key y, value y)) (map g zs) ≡ map (λ z. (key (g z), value (g z))) zs
      pairs [] = refl
      pairs (z ∷ zs) = ap (λ rest. (key (g z), value (g z)) ∷ rest) (pairs zs)

  -- what a place with the key says
  pub row_at-stands : (ys : List Y) → AreInOrder R key ys → (q : K) (i : ℕ) (d : Y) → StandsAt R key ys q i → row_at R key ys q ≡ Some (get_or ys i d)
  row_at-stands ys h q i d at = found ys (T_of _ h) i d at.within (at.same d)
    where
      found : (ys : List Y) → T (is_sorted R (keyed_rows ys)) → (i : ℕ) (d : Y) → i < length ys → R (key (get_or ys i d)) q ≡ Equal → row_at R key ys q ≡ Some (get_or ys i d)
      found [] h i d within same = absurd (omega arith)
      found (y ∷ ys) h zero d within same = ap (λ r. cond (is_eq r) (Some y) (row_at R key ys q)) (tied_back o _ _ same)
      found (y ∷ ys) h (suc i) d within same =
          let apart : R q (key y) ≡ Greater = sym (o.congr _ _ (key y) same) ∙ Greater_back _ _ (below_at (key y) ys (first_true _ _ h) i d (omega arith)) in
          ap (λ r. cond (is_eq r) (Some y) (row_at R key ys q)) apart ∙ found ys (second_true _ _ h) i d (omega arith) same

  -- and where no row has it
  row_at-nowhere : (ys : List Y) (q : K) → ((i : ℕ) (d : Y) → i < length ys → is_eq (R (key (get_or ys i d)) q) ≡ false) → row_at R key ys q ≡ None
  row_at-nowhere [] q apart = refl
  row_at-nowhere (y ∷ ys) q apart =
      let other : eq_by_cmp R q (key y) ≡ false = (eq_by_cmp_equiv o).symm q (key y) ∙ apart 0 y (omega arith) in
      ap (λ b. cond b (Some y) (row_at R key ys q)) other ∙ row_at-nowhere ys q (λ i d within. apart (suc i) d (omega arith))

  pub row_at-gap : (ys : List Y) (q : K) (i : ℕ) → WouldStandAt R key ys q i → row_at R key ys q ≡ None
  row_at-gap ys q i gap = row_at-nowhere ys q (λ j d within. ⊎_elim (λ below. ap is_eq (gap.before j d below)) (λ above. ap is_eq (gap.behind j d above within)) (cases_lt j i))

  -- a binary search by key ends at the key, or where it would stand
  pub searched : (ys : List Y) → AreInOrder R key ys → (q : K) (r : Result ℕ ℕ) → IsSearchInRange r (length ys) → IsBinarySearchResult (λ y. R (key y) q) ys r → IsPlace R key ys q r
  searched ys h q (Ok i) within found = record { within = within; same = found }
  searched ys h q (Err i) within parted =
      let rising : IsSortedBy (λ a b. is_lt (R (key a) (key b))) ys = λ k d _ inside.
      ap (λ n. is_lt (R (key (get_or ys n d)) (key (get_or ys k d)))) (add-one k) ∙ ap is_lt (Greater_back _ _ (rises ys (T_of _ h) k d (omega arith))) in
      let apart = parted (searchable_from_sorted o key ys q rising) in
      record { within = within; before = λ j d below. apart.0 j d (omega arith) below; behind = λ j d above inside. apart.1 j d above inside }

  -- a row that is found is one of the rows, and has the key
  pub row_at-found : (ys : List Y) (q : K) (y : Y) → row_at R key ys q ≡ Some y → Contains ys y × (R (key y) q ≡ Equal)
  row_at-found [] q y e = cc
  row_at-found (z ∷ ys) q y e =
      elim (eq_by_cmp R q (key z)) as (λ b. eq_by_cmp R q (key z) ≡ b → cond b (Some z) (row_at R key ys q) ≡ Some y → Contains (z ∷ ys) y × (R (key y) q ≡ Equal)) [
        | true ↦ λ t is. ((0, omega arith, same_Some is), ap (λ w. R (key w) q) (sym (same_Some is)) ∙ tied_back o _ _ (Equal_of _ t))
        | false ↦ λ t is. let found = row_at-found ys q y is in (Contains-further z ys y found.0, found.1)
      ] refl e

  -- a row with the key keeps it from being absent
  row_at-present : (ys : List Y) (q : K) (y : Y) → Contains ys y → R (key y) q ≡ Equal → row_at R key ys q ≢ None
  row_at-present [] q y in_list same none = absurd (omega (arith, in_list.1))
  row_at-present (z ∷ ys) q y in_list same none =
      elim (eq_by_cmp R q (key z)) as (λ b. eq_by_cmp R q (key z) ≡ b → cond b (Some z) (row_at R key ys q) ≡ None → ⊥) [
        | true ↦ λ t is. cc
        | false ↦ λ t is. row_at-present ys q y (Contains-rest z ys y (λ e. true≢false (sym (ap is_eq (ap (λ w. R q (key w)) e ∙ tied_back o _ _ same)) ∙ t)) in_list) same is
      ] refl none

  -- in rows in order it is the one that is found
  pub row_at-member : (ys : List Y) → AreInOrder R key ys → (q : K) (y : Y) → Contains ys y → R (key y) q ≡ Equal → row_at R key ys q ≡ Some y
  row_at-member ys h q y in_list same =
      let there : (d : Y) → get_or ys in_list.0 d ≡ y = λ d. get_or_default ys in_list.0 d y in_list.1 ∙ in_list.2 in
      row_at-stands ys h q in_list.0 y (record { within = in_list.1; same = λ d. ap (λ z. R (key z) q) (there d) ∙ same }) ∙ ap Some (there y)

  -- so rows in order answer as those rows do in any other order
  pub row_at-permuted : (xs ys : List Y) → IsPermutation xs ys → AreInOrder R key ys → (q : K) → row_at R key ys q ≡ row_at R key xs q
  row_at-permuted xs ys moved h q =
      elim (row_at R key xs q) as (λ r. row_at R key xs q ≡ r → row_at R key ys q ≡ r) [
        | Some x ↦ λ e. let found = row_at-found xs q x e in row_at-member ys h q x (Contains-permutation xs ys x moved found.0) found.1
        | None ↦ λ e. elim (row_at R key ys q) as (λ r. row_at R key ys q ≡ r → r ≡ None) [
          | Some x ↦ λ is.
              let found = row_at-found ys q x is in
              absurd (row_at-present xs q x (Contains-permutation ys xs x (IsPermutation-sym xs ys moved) found.0) found.1 e)
          | None ↦ λ _. refl
        ] refl
      ] refl

  -- the row that is put where its key would stand
  rows-insert : (ys : List Y) (i : ℕ) (y : Y) → WouldStandAt R key ys (key y) i → keyed_rows (insert ys i y) ≡ put R (key y) y (keyed_rows ys)
  rows-insert [] zero y gap = refl
  rows-insert [] (suc i) y gap = absurd (omega (arith, gap.within))
  rows-insert (z ∷ ys) zero y gap = ap (λ r. by_order r ((key y, y) ∷ (key z, z) ∷ keyed_rows ys) ((key z, y) ∷ keyed_rows ys) ((key z, z) ∷ put R (key y) y (keyed_rows ys))) (sym (Less_back _ _ (gap.behind 0 z (omega arith) (omega arith))))
  rows-insert (z ∷ ys) (suc i) y gap =
      let further : WouldStandAt R key ys (key y) i = record {
        within = omega (arith, gap.within);
        before = λ j d below. gap.before (suc j) d (omega arith);
        behind = λ j d above inside. gap.behind (suc j) d (omega arith) (omega arith);
      } in
      ap (λ rest. (key z, z) ∷ rest) (rows-insert ys i y further)
      ∙ ap (λ r. by_order r ((key y, y) ∷ (key z, z) ∷ keyed_rows ys) ((key z, y) ∷ keyed_rows ys) ((key z, z) ∷ put R (key y) y (keyed_rows ys))) (sym (Greater_back _ _ (gap.before 0 z (omega arith))))

  -- and the row that takes the place of one with its key
  rows-set : (ys : List Y) → T (is_sorted R (keyed_rows ys)) → (i : ℕ) (y : Y) → i < length ys → key (get_or ys i y) ≡ key y → keyed_rows (set ys i y) ≡ put R (key y) y (keyed_rows ys)
  rows-set [] h i y within same = absurd (omega arith)
  rows-set (z ∷ ys) h zero y within same =
      ap (λ k. (k, y) ∷ keyed_rows ys) (sym same)
      ∙ ap (λ r. by_order r ((key y, y) ∷ (key z, z) ∷ keyed_rows ys) ((key z, y) ∷ keyed_rows ys) ((key z, z) ∷ put R (key y) y (keyed_rows ys))) (sym (ap (R (key y)) same ∙ tied_itself o (key y)))
  rows-set (z ∷ ys) h (suc i) y within same =
      let above : R (key y) (key z) ≡ Greater = Greater_back _ _ (ap (R (key z)) (sym same) ∙ below_at (key z) ys (first_true _ _ h) i y (omega arith)) in
      ap (λ rest. (key z, z) ∷ rest) (rows-set ys (second_true _ _ h) i y (omega arith) same)
      ∙ ap (λ r. by_order r ((key y, y) ∷ (key z, z) ∷ keyed_rows ys) ((key z, y) ∷ keyed_rows ys) ((key z, z) ∷ put R (key y) y (keyed_rows ys))) (sym above)

  pub AreInOrder-insert : (ys : List Y) → AreInOrder R key ys → (i : ℕ) (y : Y) → WouldStandAt R key ys (key y) i → AreInOrder R key (insert ys i y)
  AreInOrder-insert ys h i y gap = true_of _ (subst (λ es. T (is_sorted R es)) (sym (rows-insert ys i y gap)) (is_sorted-put R o (key y) y (keyed_rows ys) (T_of _ h)))

  pub row_at-insert : (ys : List Y) (i : ℕ) (y : Y) → WouldStandAt R key ys (key y) i → (q : K) → row_at R key (insert ys i y) q ≡ cond (eq_by_cmp R q (key y)) (Some y) (row_at R key ys q)
  row_at-insert ys i y gap q = ap (find R q) (rows-insert ys i y gap) ∙ find-put R o q (key y) y (keyed_rows ys)

  module _ (ys : List Y) (h : AreInOrder R key ys) (i : ℕ) (y : Y) (within : i < length ys) (same : key (get_or ys i y) ≡ key y) where
    pub AreInOrder-set : AreInOrder R key (set ys i y)
    AreInOrder-set = true_of _ (subst (λ es. T (is_sorted R es)) (sym (rows-set ys (T_of _ h) i y within same)) (is_sorted-put R o (key y) y (keyed_rows ys) (T_of _ h)))

    pub row_at-set : (q : K) → row_at R key (set ys i y) q ≡ cond (eq_by_cmp R q (key y)) (Some y) (row_at R key ys q)
    row_at-set q = ap (find R q) (rows-set ys (T_of _ h) i y within same) ∙ find-put R o q (key y) y (keyed_rows ys)

  -- the maps that rows make
  module _ {X : Type 0} where
    pub get-map_of : (value : Y → X) (ys : List Y) (q : K) → finite.get (map_of R key ys value) q ≡ option_map value (row_at R key ys q)
    get-map_of value ys q = get-from_entries o _ q ∙ seen ys
      where
        seen : (ys : List Y) → find R q (map (λ y. (key y, value y)) ys) ≡ option_map value (row_at R key ys q)
        seen [] = refl
        seen (y ∷ ys) = elim (eq_by_cmp R q (key y)) as (λ b. cond b (Some (value y)) (find R q (map (λ y. (key y, value y)) ys)) ≡ option_map value (cond b (Some y) (row_at R key ys q))) [ true ↦ refl | false ↦ seen ys ]

    -- the rows that have a value, each with it
    abbrev some_rows : (Y → Option X) → List Y → List (K × X)
    some_rows value = filter_map (λ y. option_map (λ v. (key y, v)) (value y))

    some_rows-nowhere : (value : Y → Option X) (ys : List Y) (low q : K) → R q low ≡ Equal → T (below_all R low (keyed_rows ys)) → find R q (some_rows value ys) ≡ None
    some_rows-nowhere value [] low q same below = refl
    some_rows-nowhere value (y ∷ ys) low q same below =
        let rest = some_rows-nowhere value ys low q same (second_true _ _ below) in
        let apart : R q (key y) ≡ Less = o.congr q low (key y) same ∙ Less_of _ (first_true _ _ below) in
        elim (value y) as (λ v. find R q (cons_option (option_map (λ w. (key y, w)) v) (some_rows value ys)) ≡ None) [
          | None ↦ rest
          | Some v ↦ ap (λ r. cond (is_eq r) (Some v) (find R q (some_rows value ys))) apart ∙ rest
        ]

    pub get-map_where : (value : Y → Option X) (ys : List Y) → AreInOrder R key ys → (q : K) → finite.get (map_where R key ys value) q ≡ option_and_then value (row_at R key ys q)
    get-map_where value ys h q = get-from_entries o _ q ∙ seen ys (T_of _ h)
      where
        seen : (ys : List Y) → T (is_sorted R (keyed_rows ys)) → find R q (some_rows value ys) ≡ option_and_then value (row_at R key ys q)
        seen [] h = refl
        seen (y ∷ ys) h =
            elim (eq_by_cmp R q (key y)) as (λ b. eq_by_cmp R q (key y) ≡ b → find R q (some_rows value (y ∷ ys)) ≡ option_and_then value (cond b (Some y) (row_at R key ys q))) [
              | true ↦ λ t. elim (value y) as (λ v. find R q (cons_option (option_map (λ w. (key y, w)) v) (some_rows value ys)) ≡ v) [
                | None ↦ some_rows-nowhere value ys (key y) q (Equal_of _ t) (first_true _ _ h)
                | Some v ↦ ap (λ b. cond b (Some v) (find R q (some_rows value ys))) t
              ]
              | false ↦ λ t. elim (value y) as (λ v. find R q (cons_option (option_map (λ w. (key y, w)) v) (some_rows value ys)) ≡ option_and_then value (row_at R key ys q)) [
                | None ↦ seen ys (second_true _ _ h)
                | Some v ↦ ap (λ b. cond b (Some v) (find R q (some_rows value ys))) t ∙ seen ys (second_true _ _ h)
              ]
            ] refl

    module _ (exact : IsAntisymmetric R) where
      -- rows in order are the entries of their map
      pub entries-map_of : (value : Y → X) (ys : List Y) → AreInOrder R key ys → entries (map_of R key ys value) ≡ map (λ y. (key y, value y)) ys
      entries-map_of value ys h =
          let es = map (λ (y : Y). (key y, value y)) ys in
          let sorted : T (is_sorted R es) = subst T (same_order ys) (T_of _ h) in
          ap entries (same_map o exact _ _ (λ q. get-from_entries o es q ∙ sym (get-from_sorted R es q sorted))) ∙ entries-from_sorted R es sorted
        where
          same_below : (x : K) (ys : List Y) → below_all R x (keyed_rows ys) ≡ below_all R x (map (λ y. (key y, value y)) ys)
          same_below x [] = refl
          same_below x (y ∷ ys) = ap (λ b. is_lt (R x (key y)) && b) (same_below x ys)

          same_order : (ys : List Y) → is_sorted R (keyed_rows ys) ≡ is_sorted R (map (λ y. (key y, value y)) ys)
          same_order [] = refl
          same_order (y ∷ ys) = ap₂ ◌&&◌ (same_below (key y) ys) (same_order ys)

      pub len-map_of : (value : Y → X) (ys : List Y) → AreInOrder R key ys → finite.len (map_of R key ys value) ≡ length ys
      len-map_of value ys h = finite.len-entries (map_of R key ys value) ∙ ap length (entries-map_of value ys h) ∙ length-map ys (λ y. (key y, value y))

      -- rows in another order make the same map
      pub map_of-permuted : (value : Y → X) (xs ys : List Y) → IsPermutation xs ys → AreInOrder R key ys → map_of R key ys value ≡ map_of R key xs value
      map_of-permuted value xs ys moved h = same_map o exact _ _ (λ q. get-map_of value ys q ∙ ap (option_map value) (row_at-permuted xs ys moved h q) ∙ sym (get-map_of value xs q))

      -- a new row adds its key
      pub map_of-insert : (value : Y → X) (ys : List Y) (i : ℕ) (y : Y) → WouldStandAt R key ys (key y) i → map_of R key (insert ys i y) value ≡ finite.insert (map_of R key ys value) (key y) (value y)
      map_of-insert value ys i y gap = same_map o exact _ _ (λ q.
          get-map_of value (insert ys i y) q ∙ ap (option_map value) (row_at-insert ys i y gap q) ∙ chosen (option_map value) _ _ _
          ∙ sym (get-insert o (map_of R key ys value) (key y) (value y) q ∙ ap (cond (eq_by_cmp R q (key y)) (Some (value y))) (get-map_of value ys q)))

      module _ (ys : List Y) (h : AreInOrder R key ys) (i : ℕ) (y : Y) (within : i < length ys) (same : key (get_or ys i y) ≡ key y) where
        -- a row that takes the place of another one changes what its key has
        pub map_of-set : (value : Y → X) → map_of R key (set ys i y) value ≡ finite.insert (map_of R key ys value) (key y) (value y)
        map_of-set value = same_map o exact _ _ (λ q.
            get-map_of value (set ys i y) q ∙ ap (option_map value) (row_at-set ys h i y within same q) ∙ chosen (option_map value) _ _ _
            ∙ sym (get-insert o (map_of R key ys value) (key y) (value y) q ∙ ap (cond (eq_by_cmp R q (key y)) (Some (value y))) (get-map_of value ys q)))

        -- or nothing, where the value is the one before
        pub map_of-kept : (value : Y → X) → value y ≡ value (get_or ys i y) → map_of R key (set ys i y) value ≡ map_of R key ys value
        map_of-kept value kept = ap from_entries (map-set_same (λ r. (key r, value r)) ys i y y (λ j. (sym same j, kept j)))

        pub map_where-kept : (value : Y → Option X) → value y ≡ value (get_or ys i y) → map_where R key (set ys i y) value ≡ map_where R key ys value
        map_where-kept value kept = ap from_entries (filtered ys i within same kept)
          where
            filtered : (ys : List Y) (i : ℕ) → i < length ys → key (get_or ys i y) ≡ key y → value y ≡ value (get_or ys i y) → some_rows value (set ys i y) ≡ some_rows value ys
            filtered [] i within same kept = absurd (omega arith)
            filtered (z ∷ ys) zero within same kept = λ j. cons_option (option_map (λ v. (sym same j, v)) (kept j)) (some_rows value ys)
            filtered (z ∷ ys) (suc i) within same kept = ap (cons_option (option_map (λ v. (key z, v)) (value z))) (filtered ys i (omega arith) same kept)

        pub map_where-set : (value : Y → Option X) (v : X) → value y ≡ Some v → map_where R key (set ys i y) value ≡ finite.insert (map_where R key ys value) (key y) v
        map_where-set value v now = same_map o exact _ _ (λ q.
            get-map_where value (set ys i y) (AreInOrder-set ys h i y within same) q ∙ ap (option_and_then value) (row_at-set ys h i y within same q) ∙ chosen (option_and_then value) _ _ _
            ∙ ap (λ w. cond (eq_by_cmp R q (key y)) w (option_and_then value (row_at R key ys q))) now
            ∙ sym (get-insert o (map_where R key ys value) (key y) v q ∙ ap (cond (eq_by_cmp R q (key y)) (Some v)) (get-map_where value ys h q)))

        pub map_where-remove : (value : Y → Option X) → value y ≡ None → map_where R key (set ys i y) value ≡ finite.remove (map_where R key ys value) (key y)
        map_where-remove value now = same_map o exact _ _ (λ q.
            get-map_where value (set ys i y) (AreInOrder-set ys h i y within same) q ∙ ap (option_and_then value) (row_at-set ys h i y within same q) ∙ chosen (option_and_then value) _ _ _
            ∙ ap (λ w. cond (eq_by_cmp R q (key y)) w (option_and_then value (row_at R key ys q))) now
            ∙ sym (get-remove o (map_where R key ys value) (key y) q ∙ ap (cond (eq_by_cmp R q (key y)) None) (get-map_where value ys h q)))
