-- Rows one after another: what was read of them begins each reading of the whole.
use Rattle.std.proofs.Common.{◌≡◌, ℕ, zero, suc, T, map, true≢false, Ordering, is_lt, false, add-one, ◌<◌, ◌≤◌, List, [], ◌∷◌, ◌++◌, length, get_or, refl, sym, ap, ◌∙◌, subst, append_assoc, arith}
use Rattle.std.specs.List.{flat_map, All}
use Rattle.std.proofs.lemmas.List.{length-append, append-nil, flat_map_more}
use Rattle.std.proofs.lemmas.List.Concat.{flat_map-cons}
use Rattle.std.proofs.lemmas.List.Elements.{All-head, All-tail}
use Rattle.std.specs.FinMap.{is_sorted}
use Rattle.acfg_base.specs.Places.{AreInOrder, SomeStepDown}
use Rattle.acfg_base.proofs.Rows.{first_true, second_true, true_of, T_of}
use Rattle.acfg_store.specs.Taken.{IsPrefix, AreRows}

module _ {X : Type 0} (spelled : X → List ℕ) (IsLawful : X → Type 0) (unique : IsPrefix spelled IsLawful) where
  -- rows that begin a text begin each list of rows that is all of it, if that has as many
  pub rows_behind : (rows all : List X) (rest : List ℕ) → All IsLawful rows → All IsLawful all → length rows ≤ length all
      → flat_map spelled rows ++ rest ≡ flat_map spelled all → (more : List X) × (all ≡ rows ++ more) × (rest ≡ flat_map spelled more) × All IsLawful more
  rows_behind [] all rest lawful all-lawful le same = (all, refl, same, all-lawful)
  rows_behind (r ∷ rows) [] rest lawful all-lawful le same = absurd (omega arith)
  rows_behind (r ∷ rows) (a ∷ all) rest lawful all-lawful le same =
      let parts : spelled r ++ (flat_map spelled rows ++ rest) ≡ spelled a ++ flat_map spelled all =
      sym (append_assoc (spelled r) (flat_map spelled rows) rest) ∙ ap (λ (t : List ℕ). t ++ rest) (sym (flat_map-cons spelled r rows)) ∙ same ∙ flat_map-cons spelled a all in
      let u = unique.one r a (flat_map spelled rows ++ rest) (flat_map spelled all) (All-head IsLawful r rows lawful) (All-head IsLawful a all all-lawful) parts in
      let m = rows_behind rows all rest (All-tail IsLawful r rows lawful) (All-tail IsLawful a all all-lawful) (omega arith) u.1 in
      (m.0, subst (λ (x : X). x ∷ all ≡ r ∷ (rows ++ m.0)) u.0 (ap (λ (t : List X). r ∷ t) m.1), m.2, m.3)

  -- where no row stands behind so many rows, the text isn't more rows
  pub no_more : (bytes rest : List ℕ) (rows : List X) (count : ℕ) → bytes ≡ flat_map spelled rows ++ rest → All IsLawful rows → length rows < count
      → ((x : X) (behind : List ℕ) → IsLawful x → rest ≡ spelled x ++ behind → ⊥) → (all : List X) → AreRows spelled IsLawful count bytes all → ⊥
  no_more bytes rest rows count are lawful fewer none all found =
      let m = rows_behind rows all rest lawful found.each (omega (arith, fewer, found.many)) (sym are ∙ found.are) in
      none_of m.0 m.1 m.2 m.3
    where
      none_of : (more : List X) → all ≡ rows ++ more → rest ≡ flat_map spelled more → All IsLawful more → ⊥
      none_of [] is behind lawful = omega (arith, fewer, found.many, ap length (is ∙ append-nil rows))
      none_of (x ∷ more) is behind lawful = none x (flat_map spelled more) (All-head IsLawful x more lawful) (behind ∙ flat_map-cons spelled x more)

  -- where bytes stand behind them, it isn't just as many
  pub not_all : (bytes rest : List ℕ) (rows : List X) (count : ℕ) → bytes ≡ flat_map spelled rows ++ rest → All IsLawful rows → length rows ≡ count
      → 1 ≤ length rest → (all : List X) → AreRows spelled IsLawful count bytes all → ⊥
  not_all bytes rest rows count are lawful same some all found =
      let m = rows_behind rows all rest lawful found.each (omega (arith, same, found.many)) (sym are ∙ found.are) in
      none_of m.0 m.1 m.2
    where
      none_of : (more : List X) → all ≡ rows ++ more → rest ≡ flat_map spelled more → ⊥
      none_of [] is behind = omega (arith, some, ap length behind)
      none_of (x ∷ more) is behind = omega (arith, same, found.many, ap length is, length-append rows (x ∷ more))

  -- one more row
  pub rows_more : (bytes rest behind : List ℕ) (rows : List X) (x : X) → bytes ≡ flat_map spelled rows ++ rest → rest ≡ spelled x ++ behind
      → bytes ≡ flat_map spelled (rows ++ x ∷ []) ++ behind
  rows_more bytes rest behind rows x are is =
      are ∙ ap (λ (t : List ℕ). flat_map spelled rows ++ t) is ∙ sym (append_assoc (flat_map spelled rows) (spelled x) behind)
      ∙ ap (λ (t : List ℕ). t ++ behind) (flat_map_more spelled [] rows x)

  -- of two lists of rows that are one text and as many, each is the other
  pub one_list : (count : ℕ) (bytes : List ℕ) (rows all : List X) → AreRows spelled IsLawful count bytes rows → AreRows spelled IsLawful count bytes all → rows ≡ all
  one_list count bytes rows all p q =
      let m = rows_behind rows all [] p.each q.each (omega (arith, p.many, q.many)) (append-nil (flat_map spelled rows) ∙ sym p.are ∙ q.are) in
      just m.0 m.1
    where
      just : (more : List X) → all ≡ rows ++ more → rows ≡ all
      just [] is = sym (is ∙ append-nil rows)
      just (x ∷ more) is = absurd (omega (arith, p.many, q.many, ap length is, length-append rows (x ∷ more)))

-- rows in order have no step down
module _ {K Y : Type 0} (R : K → K → Ordering) (key : Y → K) where
  order_steps : (rows : List Y) → T (is_sorted R (map (λ y. (key y, y)) rows)) → (k : ℕ) → suc k < length rows
      → ((d : Y) → is_lt (R (key (get_or rows k d)) (key (get_or rows (suc k) d))) ≡ false) → ⊥
  order_steps [] h k within down = omega arith
  order_steps (y ∷ []) h k within down = omega arith
  order_steps (y ∷ z ∷ rows) h zero within down =
      let up = true_of _ (first_true _ _ (first_true _ _ h)) in
      true≢false (sym up ∙ down y)
  order_steps (y ∷ z ∷ rows) h (suc k) within down = order_steps (z ∷ rows) (second_true _ _ h) k (omega arith) down

  pub not_down : (rows : List Y) → AreInOrder R key rows → SomeStepDown R key rows → ⊥
  not_down rows order stop =
      order_steps rows (T_of _ order) stop.0 (omega (arith, stop.1))
      (subst (λ (n : ℕ). (d : Y) → is_lt (R (key (get_or rows stop.0 d)) (key (get_or rows n d))) ≡ false) (add-one stop.0) stop.2)
