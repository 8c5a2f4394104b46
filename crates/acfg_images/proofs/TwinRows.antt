-- The least twin among rows in order is the first node whose key an earlier node has.
use Rattle.std.proofs.Common.{◌≡◌, ◌≢◌, ℕ, zero, suc, ◌+◌, ◌-◌, ◌<◌, ◌≤◌, Bool, true, false, cond, eqb, ◌||◌, List, [], ◌∷◌, ◌++◌, length, get_or, take, drop, map, Option, Some, None, Ordering, refl, sym, ap, subst, ◌∙◌, ◌⊎◌, inl, inr, arith}
use Rattle.std.specs.Prelude.{IsPermutation, min, unwrap_or}
use Rattle.std.specs.List.{list_any}
use Rattle.std.specs.List.Sorted.{IsSorted}
use Rattle.std.specs.Ordering.{is_eq, is_lt, nat_cmp, ordering_then, ordering_reverse}
use Rattle.std.specs.Option.{option_map}
use Rattle.std.specs.declared.cmp.Ordering.TheVariants.{Less, Equal, Greater}
use Rattle.std.specs.Cmp.{IsTotalOrder, nat_cmp_total, on_total, then_total}
use Rattle.std.specs.Cmp.Lexicographic.{nat_list_cmp_total, options_total}
use Rattle.std.proofs.lemmas.Bool.{cases_eq, cases_lt, or_cases, or_left, or_right, both_ways, eq-eqb, eqb-true}
use Rattle.std.proofs.lemmas.Bool.Decides.{nat_tests}
use Rattle.std.proofs.lemmas.List.{append-nil, drop_all, take_all, get_or_default, length-append, length-map, get_or-map}
use Rattle.std.proofs.lemmas.List.Elements.{Contains-get_or}
use Rattle.std.proofs.lemmas.List.Folds.{list_any-append}
use Rattle.std.proofs.lemmas.List.MinMax.{ranks_by}
use Rattle.std.proofs.lemmas.List.Sorted.{sorted_far, Contains-permutation, IsPermutation-sym, sum_by-IsPermutation}
use Rattle.acfg_base.specs.Release.{kind_number}
use Rattle.acfg_images.specs.declared.links.NodeLink.{NodeLink}
use Rattle.acfg_images.specs.Code.{HaveBuckets, link_of, links_of}
use Rattle.acfg_images.specs.Faults.{twice, twice_behind}
use Rattle.acfg_views.specs.Fields.{number, string}
use Rattle.acfg_views.specs.Layout.{Package, Flag, package_node, flag_node}
use Rattle.acfg_views.proofs.Exact.{length-number}
use Rattle.acfg_views.proofs.FileFacts.{length-string}
use Rattle.acfg_images.specs.Links.{NodeKey, Link, same_key, links_from, package_key, flag_node_key, package_links, flag_links}
use Rattle.acfg_images.specs.Twins.{Row, row_of, row_cmp, row_key, have_one_key, Rise, HasTwin, IsLeast}
use Rattle.acfg_images.proofs.Keys.{Kept, kept_cmp, InBucket, kept_eq, same_key-is, same_key-sym, no_link}
use Rattle.acfg_images.proofs.KeysAre.{same_key-refl}
use Rattle.acfg_images.proofs.Pigeon.{two_of, counted_twice}

-- ---- the least of a kind is one

pub least_is_one : (P : ℕ → Type 0) (r s : Option ℕ) → IsLeast P r → IsLeast P s → r ≡ s
least_is_one P None None p q = refl
least_is_one P None (Some b) p q = absurd (p b q.0)
least_is_one P (Some a) None p q = absurd (q a p.0)
least_is_one P (Some a) (Some b) p q =
    let le = p.1 b q.0 in
    let ge = q.1 a p.0 in
    let e : a ≡ b = omega arith in
    ap (λ (n : ℕ). Some n) e

pub least_same : (P Q : ℕ → Type 0) (r : Option ℕ) → ((a : ℕ) → P a → Q a) → ((a : ℕ) → Q a → P a) → IsLeast P r → IsLeast Q r
least_same P Q None there back p = λ a q. p a (back a q)
least_same P Q (Some a) there back p = (there a p.0, λ b q. p.1 b (back b q))

-- ---- the definition

blank_link : Link
blank_link = record { at = 0; key = record { owner = None; name = [] }; next = 0 }

-- a node stands there whose key is an earlier one, or that of an earlier node of these
record IsBehind (earlier : List NodeKey) (links : List Link) (a : ℕ) : Type 0 where
  place : ℕ
  within : place < length links
  at : (get_or links place blank_link).at ≡ a
  before : (list_any (same_key (get_or links place blank_link).key) earlier ≡ true) ⊎ ((i : ℕ) × (i < place) × ((get_or links i blank_link).key ≡ (get_or links place blank_link).key))

rise_tail : (link : Link) (links : List Link) → Rise (link ∷ links) → Rise links
rise_tail link links rise i j d lt in' = rise (suc i) (suc j) d (omega arith) (omega arith)

one_any : (k l : NodeKey) (earlier : List NodeKey) → list_any (same_key k) (earlier ++ l ∷ []) ≡ (list_any (same_key k) earlier || (same_key k l || false))
one_any k l earlier = list_any-append (same_key k) earlier (l ∷ [])

or_false : (x : Bool) → (x || false) ≡ true → x ≡ true
or_false true p = refl
or_false false p = p

module _ (earlier : List NodeKey) (link : Link) (links : List Link) (test : list_any (same_key link.key) earlier ≡ false) where
  behind_next : (a : ℕ) → IsBehind (earlier ++ link.key ∷ []) links a → IsBehind earlier (link ∷ links) a
  behind_next a b = record {
    place = suc b.place;
    within = omega (arith, b.within);
    at = b.at;
    before = go b.before;
  }
    where
      key : NodeKey
      key = (get_or links b.place blank_link).key

      go : (list_any (same_key (get_or links b.place blank_link).key) (earlier ++ link.key ∷ []) ≡ true) ⊎ ((i : ℕ) × (i < b.place) × ((get_or links i blank_link).key ≡ (get_or links b.place blank_link).key))
          → (list_any (same_key (get_or links b.place blank_link).key) earlier ≡ true) ⊎ ((i : ℕ) × (i < suc b.place) × ((get_or (link ∷ links) i blank_link).key ≡ (get_or links b.place blank_link).key))
      go (inr (i, lt, e)) = inr (suc i, omega arith, e)
      go (inl e) = found (or_cases _ _ (sym (one_any (get_or links b.place blank_link).key link.key earlier) ∙ e))
        where
          found : (list_any (same_key (get_or links b.place blank_link).key) earlier ≡ true) ⊎ ((same_key (get_or links b.place blank_link).key link.key || false) ≡ true)
              → (list_any (same_key (get_or links b.place blank_link).key) earlier ≡ true) ⊎ ((i : ℕ) × (i < suc b.place) × ((get_or (link ∷ links) i blank_link).key ≡ (get_or links b.place blank_link).key))
          found (inl old) = inl old
          found (inr new) = inr (0, omega arith, sym (same_key-is _ _ (or_false _ new)))

  behind_back : (a : ℕ) → IsBehind earlier (link ∷ links) a → IsBehind (earlier ++ link.key ∷ []) links a
  behind_back a b = go b.place b.within b.at b.before
    where
      Before : ℕ → Type 0
      Before place = (list_any (same_key (get_or (link ∷ links) place blank_link).key) earlier ≡ true) ⊎ ((i : ℕ) × (i < place) × ((get_or (link ∷ links) i blank_link).key ≡ (get_or (link ∷ links) place blank_link).key))

      go : (place : ℕ) → place < length (link ∷ links) → (get_or (link ∷ links) place blank_link).at ≡ a
          → (list_any (same_key (get_or (link ∷ links) place blank_link).key) earlier ≡ true) ⊎ ((i : ℕ) × (i < place) × ((get_or (link ∷ links) i blank_link).key ≡ (get_or (link ∷ links) place blank_link).key))
          → IsBehind (earlier ++ link.key ∷ []) links a
      go zero within at (inl e) = absurd (both_ways _ test e)
      go zero within at (inr (i, lt, e)) = absurd (omega arith)
      go (suc j) within at (inl e) = record { place = j; within = omega arith; at = at; before = inl (one_any (get_or links j blank_link).key link.key earlier ∙ or_left _ _ e) }
      go (suc j) within at (inr (zero, lt, e)) =
          let same : same_key (get_or links j blank_link).key link.key ≡ true = subst (λ (k : NodeKey). same_key (get_or links j blank_link).key k ≡ true) (sym e) (same_key-refl (get_or links j blank_link).key) in
          record { place = j; within = omega arith; at = at; before = inl (one_any (get_or links j blank_link).key link.key earlier ∙ or_right _ _ (or_left _ _ same)) }
      go (suc j) within at (inr (suc i, lt, e)) = record { place = j; within = omega arith; at = at; before = inr (i, omega arith, e) }

twice_least : (earlier : List NodeKey) (links : List Link) → Rise links → IsLeast (IsBehind earlier links) (twice_behind earlier links)
twice_least earlier [] rise = λ a b. absurd (omega (arith, b.within))
twice_least earlier (link ∷ links) rise = go (list_any (same_key link.key) earlier) refl (twice_least (earlier ++ link.key ∷ []) links (rise_tail link links rise))
  where
    go : (b : Bool) → list_any (same_key link.key) earlier ≡ b → IsLeast (IsBehind (earlier ++ link.key ∷ []) links) (twice_behind (earlier ++ link.key ∷ []) links)
        → IsLeast (IsBehind earlier (link ∷ links)) (cond b (Some link.at) (twice_behind (earlier ++ link.key ∷ []) links))
    go true is rest = (record { place = 0; within = omega arith; at = refl; before = inl is }, λ a b. first a b.place b.within b.at)
      where
        first : (a place : ℕ) → place < length (link ∷ links) → (get_or (link ∷ links) place blank_link).at ≡ a → link.at ≤ a
        first a zero within at = omega arith
        first a (suc j) within at = let h = rise 0 (suc j) blank_link (omega arith) within in omega arith
    go false is rest = least_same (IsBehind (earlier ++ link.key ∷ []) links) (IsBehind earlier (link ∷ links)) (twice_behind (earlier ++ link.key ∷ []) links) (behind_next earlier link links is) (behind_back earlier link links is) rest

-- ---- orders of rows

kept : Row → Kept
kept x = (x.0, x.1, x.2)

kept_total : IsTotalOrder kept_cmp
kept_total = then_total (then_total (on_total (λ (k : Kept). k.0) nat_cmp_total) (on_total (λ (k : Kept). k.1) (options_total nat_cmp_total))) (on_total (λ (k : Kept). k.2.now) nat_list_cmp_total)

row_total : IsTotalOrder row_cmp
unfolding kept
row_total = then_total (on_total (λ (r : Row). kept r) kept_total) (on_total (λ (r : Row). r.3) nat_cmp_total)

then_not_less : (a b : Ordering) → is_lt (ordering_then a b) ≡ false → is_lt a ≡ false
then_not_less Less b e = e
then_not_less Equal b e = refl
then_not_less Greater b e = refl

then_equal_less : (a b : Ordering) → is_eq a ≡ true → is_lt b ≡ true → is_lt (ordering_then a b) ≡ true
then_equal_less Less b e h = absurd cc
then_equal_less Equal b e h = h
then_equal_less Greater b e h = absurd cc

then_equal_not : (a b : Ordering) → is_eq a ≡ true → is_lt (ordering_then a b) ≡ false → is_lt b ≡ false
then_equal_not Less b e h = absurd cc
then_equal_not Equal b e h = h
then_equal_not Greater b e h = absurd cc

equal_of : (a : Ordering) → is_eq a ≡ true → a ≡ Equal
equal_of Less e = absurd cc
equal_of Equal e = refl
equal_of Greater e = absurd cc

neither : (a b : Ordering) → a ≡ ordering_reverse b → is_lt a ≡ false → is_lt b ≡ false → is_eq a ≡ true
neither Less b turned p q = absurd cc
neither Equal b turned p q = refl
neither Greater Less turned p q = absurd cc
neither Greater Equal turned p q = absurd cc
neither Greater Greater turned p q = absurd cc

-- ---- rows in order

abbrev blank_row : Row
blank_row = row_of no_link

-- with a fixed default for places where nothing is
record IsTwinAt (rows : List Row) (n a : ℕ) : Type 0 where
  place : ℕ
  within : place + 1 < n
  same : have_one_key (get_or rows place blank_row) (get_or rows (place + 1) blank_row) ≡ true
  at : (get_or rows (place + 1) blank_row).3 ≡ a

twin_at : (rows : List Row) (n a : ℕ) → n ≤ length rows → HasTwin rows n a → IsTwinAt rows n a
twin_at rows n a le h = record { place = h.0; within = h.1; same = h.2 blank_row; at = h.3 blank_row }

has_twin : (rows : List Row) (n a : ℕ) → n ≤ length rows → IsTwinAt rows n a → HasTwin rows n a
has_twin rows n a le t = (
  t.place,
  t.within,
  λ d.
      let first = get_or_default rows t.place d blank_row (let h = t.within in omega arith) in
      let second = get_or_default rows (t.place + 1) d blank_row (let h = t.within in omega arith) in
      ap (λ (x : Row). have_one_key x (get_or rows (t.place + 1) d)) first ∙ ap (λ (x : Row). have_one_key (get_or rows t.place blank_row) x) second ∙ t.same,
  λ d. ap (λ (x : Row). x.3) (get_or_default rows (t.place + 1) d blank_row (let h = t.within in omega arith)) ∙ t.at,
)

module _ (links : List NodeLink) (count : ℕ) (buckets : HaveBuckets count links) (rise : Rise (links_of links)) (rows : List Row) (perm : IsPermutation (map row_of links) rows) (sorted : IsSorted row_cmp rows) where
  link : ℕ → NodeLink
  link j = get_or links j no_link

  rise_at : (i j : ℕ) → i < j → j < length links → (get_or links i no_link).at < (get_or links j no_link).at
  rise_at i j lt in' =
      let h = rise i j (link_of no_link) lt (omega (arith, length-map links link_of)) in
      let first : get_or (links_of links) i (link_of no_link) ≡ link_of (get_or links i no_link) = get_or-map link_of links i no_link (link_of no_link) (omega arith) in
      let second : get_or (links_of links) j (link_of no_link) ≡ link_of (get_or links j no_link) = get_or-map link_of links j no_link (link_of no_link) in' in
      let a = ap (λ (l : Link). l.at) first in
      let b = ap (λ (l : Link). l.at) second in
      omega (arith, h, a, b)

  record HasPlace (j : ℕ) : Type 0 where
    place : ℕ
    within : place < length rows
    there : get_or rows place blank_row ≡ row_of (get_or links j no_link)

  at_row : (j : ℕ) → j < length links → HasPlace j
  at_row j lt =
      let len = length-map links row_of in
      let is : get_or (map row_of links) j blank_row ≡ row_of (get_or links j no_link) = get_or-map row_of links j no_link blank_row lt in
      let c = Contains-permutation (map row_of links) rows (get_or (map row_of links) j blank_row) perm (Contains-get_or (map row_of links) j blank_row (omega arith)) in
      record { place = c.0; within = c.1; there = get_or_default rows c.0 blank_row (get_or (map row_of links) j blank_row) c.1 ∙ c.2 ∙ is }

  record HasLink (p : ℕ) : Type 0 where
    place : ℕ
    within : place < length links
    there : get_or rows p blank_row ≡ row_of (get_or links place no_link)

  of_link : (p : ℕ) → p < length rows → HasLink p
  of_link p lt =
      let c = Contains-permutation rows (map row_of links) (get_or rows p blank_row) (IsPermutation-sym (map row_of links) rows perm) (Contains-get_or rows p blank_row lt) in
      let len = length-map links row_of in
      let in' : c.0 < length links = let h = c.1 in omega arith in
      let is : get_or (map row_of links) c.0 (get_or rows p blank_row) ≡ row_of (get_or links c.0 no_link) = get_or-map row_of links c.0 no_link (get_or rows p blank_row) in' in
      record { place = c.0; within = in'; there = sym c.2 ∙ is }

  in_bucket : (p : ℕ) → p < length rows → InBucket count (kept (get_or rows p blank_row))
  unfolding kept
  in_bucket p lt = let h = of_link p lt in subst (λ (r : Row). InBucket count (r.0, r.1, r.2)) (sym h.there) (buckets h.place no_link h.within)

  in_order : (p q : ℕ) → p ≤ q → q < length rows → is_lt (row_cmp (get_or rows q blank_row) (get_or rows p blank_row)) ≡ false
  in_order p q le lt = sorted_far (λ x y. is_lt (row_cmp x y)) (ranks_by row_total (λ (r : Row). r)) rows sorted p q blank_row le lt

  -- rows with one key
  equal_kept : (p q : ℕ) → p < length rows → q < length rows → have_one_key (get_or rows p blank_row) (get_or rows q blank_row) ≡ true → is_eq (kept_cmp (kept (get_or rows q blank_row)) (kept (get_or rows p blank_row))) ≡ true
  unfolding kept
  equal_kept p q p_in q_in same = kept_eq count (kept (get_or rows q blank_row)) (kept (get_or rows p blank_row)) (in_bucket q q_in) (in_bucket p p_in) ∙ same

  one_key_of : (p q : ℕ) → p < length rows → q < length rows → is_eq (kept_cmp (kept (get_or rows q blank_row)) (kept (get_or rows p blank_row))) ≡ true → have_one_key (get_or rows p blank_row) (get_or rows q blank_row) ≡ true
  unfolding kept
  one_key_of p q p_in q_in e = sym (kept_eq count (kept (get_or rows q blank_row)) (kept (get_or rows p blank_row)) (in_bucket q q_in) (in_bucket p p_in)) ∙ e

  -- two nodes with one key: the row before the later one's has it too
  twin_found : (i j : ℕ) → i < j → j < length links → (row_key (row_of (get_or links i no_link)) ≡ row_key (row_of (get_or links j no_link))) → IsTwinAt rows (length rows) (get_or links j no_link).at
  unfolding kept
  twin_found i j lt in' same =
      let p = at_row i (omega arith) in
      let q = at_row j in' in
      let ats = rise_at i j lt in' in
      let one : have_one_key (get_or rows p.place blank_row) (get_or rows q.place blank_row) ≡ true =
      ap (λ (x : Row). have_one_key x (get_or rows q.place blank_row)) p.there ∙ ap (have_one_key (row_of (get_or links i no_link))) q.there
      ∙ subst (λ (k : NodeKey). same_key (row_key (row_of (get_or links i no_link))) k ≡ true) same (same_key-refl (row_key (row_of (get_or links i no_link)))) in
      let other : have_one_key (get_or rows q.place blank_row) (get_or rows p.place blank_row) ≡ true = same_key-sym (row_key (get_or rows q.place blank_row)) (row_key (get_or rows p.place blank_row)) ∙ one in
      let first_at : (get_or rows p.place blank_row).3 ≡ (get_or links i no_link).at = ap (λ (x : Row). x.3) p.there in
      let second_at : (get_or rows q.place blank_row).3 ≡ (get_or links j no_link).at = ap (λ (x : Row). x.3) q.there in
      let less : is_lt (row_cmp (get_or rows p.place blank_row) (get_or rows q.place blank_row)) ≡ true =
      then_equal_less _ _ (equal_kept q.place p.place q.within p.within other) (below (get_or rows p.place blank_row).3 (get_or rows q.place blank_row).3 (omega arith)) in
      let order : p.place < q.place = before p.place q.place p.within less in
      let k : ℕ = q.place - 1 in
      let k_is : k + 1 ≡ q.place = omega arith in
      let k_in : k < length rows = let h = q.within in omega arith in
      let down = then_not_less _ _ (in_order p.place k (omega arith) k_in) in
      let up = then_not_less _ _ (in_order k q.place (omega arith) q.within) in
      let alike = equal_of _ (equal_kept p.place q.place p.within q.within one) in
      let up' : is_lt (kept_cmp (kept (get_or rows p.place blank_row)) (kept (get_or rows k blank_row))) ≡ false =
      ap is_lt (sym (kept_total.congr (kept (get_or rows q.place blank_row)) (kept (get_or rows p.place blank_row)) (kept (get_or rows k blank_row)) alike)) ∙ up in
      let equal = neither (kept_cmp (kept (get_or rows k blank_row)) (kept (get_or rows p.place blank_row))) _ (kept_total.antisymm (kept (get_or rows k blank_row)) (kept (get_or rows p.place blank_row))) down up' in
      let key_p : have_one_key (get_or rows p.place blank_row) (get_or rows k blank_row) ≡ true = one_key_of p.place k p.within k_in equal in
      let keys : row_key (get_or rows k blank_row) ≡ row_key (get_or rows q.place blank_row) = sym (same_key-is _ _ key_p) ∙ same_key-is _ _ one in
      let next : have_one_key (get_or rows k blank_row) (get_or rows q.place blank_row) ≡ true = subst (λ (x : NodeKey). same_key (row_key (get_or rows k blank_row)) x ≡ true) keys (same_key-refl (row_key (get_or rows k blank_row))) in
      record {
        place = k;
        within = let h = q.within in omega arith;
        same = subst (λ (n : ℕ). have_one_key (get_or rows k blank_row) (get_or rows n blank_row) ≡ true) (sym k_is) next;
        at = subst (λ (n : ℕ). (get_or rows n blank_row).3 ≡ (get_or links j no_link).at) (sym k_is) second_at;
      }
    where
      below : (a b : ℕ) → a < b → is_lt (nat_cmp a b) ≡ true
      below a b h = grind (arith, nat_tests)

      before : (p q : ℕ) → p < length rows → is_lt (row_cmp (get_or rows p blank_row) (get_or rows q blank_row)) ≡ true → p < q
      before p q in_rows less =
          elim (cases_lt p q) [
            | inl lt' ↦ lt'
            | inr le ↦ absurd (both_ways _ (in_order q p le in_rows) less)
          ]

  -- no two rows stand at one place
  one_row : (k a : ℕ) → k + 1 < length rows → (get_or rows k blank_row).3 ≡ a → (get_or rows (k + 1) blank_row).3 ≡ a → ⊥
  one_row k a lt first second =
      let p : Row → Bool = λ r. eqb r.3 a in
      let more = counted_twice p rows k (k + 1) blank_row (omega arith) lt (eq-eqb _ _ first) (eq-eqb _ _ second) in
      let same = sum_by-IsPermutation (λ (r : Row). cond (eqb r.3 a) 1 0) (map row_of links) rows perm in
      let two = two_of p (map row_of links) (omega (arith, more, same)) in
      let len = length-map links row_of in
      let high : two.1 < length links = let h = two.3 in omega arith in
      let low : two.0 < length links = let h = two.2 in omega arith in
      let f : (get_or (map row_of links) two.0 blank_row).3 ≡ a = eqb-true _ _ (two.4 blank_row) in
      let s : (get_or (map row_of links) two.1 blank_row).3 ≡ a = eqb-true _ _ (two.5 blank_row) in
      let f' : (get_or (map row_of links) two.0 blank_row).3 ≡ (get_or links two.0 no_link).at = ap (λ (x : Row). x.3) (get_or-map row_of links two.0 no_link blank_row low) in
      let s' : (get_or (map row_of links) two.1 blank_row).3 ≡ (get_or links two.1 no_link).at = ap (λ (x : Row). x.3) (get_or-map row_of links two.1 no_link blank_row high) in
      let h = rise_at two.0 two.1 two.2 high in
      omega (arith, f, s, f', s', h)

  -- a row whose key the row before it has: its node has an earlier one's
  record IsTwice (a : ℕ) : Type 0 where
    first : ℕ
    second : ℕ
    order : first < second
    within : second < length links
    keys : row_key (row_of (get_or links first no_link)) ≡ row_key (row_of (get_or links second no_link))
    at : (get_or links second no_link).at ≡ a

  twice_found : (a : ℕ) → IsTwinAt rows (length rows) a → IsTwice a
  unfolding kept
  twice_found a t =
      let k = t.place in
      let k_in : k < length rows = let h = t.within in omega arith in
      let i = of_link k k_in in
      let j = of_link (k + 1) t.within in
      let down = then_equal_not _ _ (equal_kept k (k + 1) k_in t.within t.same) (in_order k (k + 1) (omega arith) t.within) in
      let le : (get_or rows k blank_row).3 ≤ (get_or rows (k + 1) blank_row).3 = not_below _ _ down in
      let first_at : (get_or rows k blank_row).3 ≡ (get_or links i.place no_link).at = ap (λ (x : Row). x.3) i.there in
      let second_at : (get_or rows (k + 1) blank_row).3 ≡ (get_or links j.place no_link).at = ap (λ (x : Row). x.3) j.there in
      let differ : (get_or rows k blank_row).3 ≢ (get_or rows (k + 1) blank_row).3 = λ e. one_row k a t.within (e ∙ t.at) t.at in
      record {
        first = i.place;
        second = j.place;
        order = earlier i.place j.place i.within j.within (λ e. differ (first_at ∙ e ∙ sym second_at)) (let h = le in omega arith);
        within = j.within;
        keys = sym (ap row_key i.there) ∙ same_key-is _ _ t.same ∙ ap row_key j.there;
        at = sym second_at ∙ t.at;
      }
    where
      not_below : (a b : ℕ) → is_lt (nat_cmp b a) ≡ false → a ≤ b
      not_below a b e = grind (arith, nat_tests)

      earlier : (i j : ℕ) → i < length links → j < length links → ((get_or links i no_link).at ≢ (get_or links j no_link).at) → (get_or links i no_link).at ≤ (get_or links j no_link).at → i < j
      earlier i j i_in j_in ne le =
          elim (cases_lt i j) [
            | inl lt' ↦ lt'
            | inr ge ↦
                elim (cases_eq i j) [
                  | inl e ↦ absurd (ne (ap (λ (n : ℕ). (get_or links n no_link).at) e))
                  | inr other ↦ let h = rise_at j i (omega arith) i_in in absurd (omega arith)
                ]
          ]

  key_at : (j : ℕ) → j < length links → (get_or (links_of links) j blank_link).key ≡ row_key (row_of (get_or links j no_link))
  key_at j lt = ap (λ (l : Link). l.key) (get_or-map link_of links j no_link blank_link lt)

  place_at : (j : ℕ) → j < length links → (get_or (links_of links) j blank_link).at ≡ (get_or links j no_link).at
  place_at j lt = ap (λ (l : Link). l.at) (get_or-map link_of links j no_link blank_link lt)

  behind_of : (a : ℕ) → IsTwinAt rows (length rows) a → IsBehind [] (links_of links) a
  behind_of a t =
      let w = twice_found a t in
      record {
        place = w.second;
        within = let h = w.within in omega (arith, length-map links link_of);
        at = place_at w.second w.within ∙ w.at;
        before = inr (w.first, w.order, key_at w.first (let h = w.order in let h' = w.within in omega arith) ∙ w.keys ∙ sym (key_at w.second w.within));
      }

  twin_of : (a : ℕ) → IsBehind [] (links_of links) a → IsTwinAt rows (length rows) a
  twin_of a b = go b.before
    where
      go : (false ≡ true) ⊎ ((i : ℕ) × (i < b.place) × ((get_or (links_of links) i blank_link).key ≡ (get_or (links_of links) b.place blank_link).key)) → IsTwinAt rows (length rows) a
      go (inl e) = absurd cc
      go (inr (i, lt, same)) =
          let in' : b.place < length links = let h = b.within in omega (arith, length-map links link_of) in
          let found = twin_found i b.place lt in' (sym (key_at i (omega arith)) ∙ same ∙ key_at b.place in') in
          subst (IsTwinAt rows (length rows)) (sym (place_at b.place in') ∙ b.at) found

  pub least_twin_is : (r : Option ℕ) → IsLeast (HasTwin rows (length rows)) r → r ≡ twice (links_of links)
  least_twin_is r least =
      let twins = least_same (HasTwin rows (length rows)) (IsTwinAt rows (length rows)) r (λ a. twin_at rows (length rows) a (omega arith)) (λ a. has_twin rows (length rows) a (omega arith)) least in
      let behind = least_same (IsTwinAt rows (length rows)) (IsBehind [] (links_of links)) r behind_of twin_of twins in
      least_is_one (IsBehind [] (links_of links)) r (twice (links_of links)) behind (twice_least [] (links_of links) rise)

-- ---- the walk over the rows

pub no_twin : (rows : List Row) → IsLeast (HasTwin rows 1) None
no_twin rows = λ a h. absurd (let k = h.1 in omega arith)

pub twins_end : (rows : List Row) (n k : ℕ) (r : Option ℕ) → n ≤ k → (k ≤ n) ⊎ (k ≤ 1) → IsLeast (HasTwin rows k) r → IsLeast (HasTwin rows n) r
twins_end rows n k r le (inl e) least = subst (λ (m : ℕ). IsLeast (HasTwin rows m) r) (let h : k ≡ n = omega arith in h) least
twins_end rows n k r le (inr few) least = least_same (HasTwin rows k) (HasTwin rows n) r (λ a h. absurd (let b = h.1 in omega arith)) (λ a h. absurd (let b = h.1 in omega arith)) least

further : (rows : List Row) (k a : ℕ) → HasTwin rows k a → HasTwin rows (k + 1) a
further rows k a h = (h.0, let b = h.1 in omega arith, h.2, h.3)

module _ (rows : List Row) (k : ℕ) (some : 1 ≤ k) (within : k < length rows) where
  split : (a : ℕ) → HasTwin rows (k + 1) a → HasTwin rows k a ⊎ ((have_one_key (get_or rows (k - 1) blank_row) (get_or rows k blank_row) ≡ true) × ((get_or rows k blank_row).3 ≡ a))
  split a (j, lt, same, at) =
      elim (cases_eq (j + 1) k) [
        | inl here ↦
            let back : j ≡ k - 1 = omega arith in
            inr (subst (λ (n : ℕ). have_one_key (get_or rows n blank_row) (get_or rows k blank_row) ≡ true) back (subst (λ (n : ℕ). have_one_key (get_or rows j blank_row) (get_or rows n blank_row) ≡ true) here (same blank_row)), subst (λ (n : ℕ). (get_or rows n blank_row).3 ≡ a) here (at blank_row))
        | inr other ↦ inl (j, omega arith, same, at)
      ]

  here : have_one_key (get_or rows (k - 1) blank_row) (get_or rows k blank_row) ≡ true → HasTwin rows (k + 1) (get_or rows k blank_row).3
  here same = has_twin rows (k + 1) (get_or rows k blank_row).3 (omega arith) (record {
    place = k - 1;
    within = omega arith;
    same = subst (λ (n : ℕ). have_one_key (get_or rows (k - 1) blank_row) (get_or rows n blank_row) ≡ true) back same;
    at = ap (λ (n : ℕ). (get_or rows n blank_row).3) (sym back);
  })
    where
      back : k ≡ k - 1 + 1
      back = omega arith

  pub twins_kept : (r : Option ℕ) → have_one_key (get_or rows (k - 1) blank_row) (get_or rows k blank_row) ≡ false → IsLeast (HasTwin rows k) r → IsLeast (HasTwin rows (k + 1)) r
  twins_kept r test least = least_same (HasTwin rows k) (HasTwin rows (k + 1)) r (further rows k) (λ a h. other a (split a h)) least
    where
      other : (a : ℕ) → HasTwin rows k a ⊎ ((have_one_key (get_or rows (k - 1) blank_row) (get_or rows k blank_row) ≡ true) × ((get_or rows k blank_row).3 ≡ a)) → HasTwin rows k a
      other a (inl h) = h
      other a (inr p) = absurd (both_ways _ test p.0)

  pub twins_more : (r : Option ℕ) → have_one_key (get_or rows (k - 1) blank_row) (get_or rows k blank_row) ≡ true → IsLeast (HasTwin rows k) r
      → IsLeast (HasTwin rows (k + 1)) (Some (unwrap_or (option_map (λ other. min other (get_or rows k blank_row).3) r) (get_or rows k blank_row).3))
  twins_more None test least = (here test, λ b h. first b (split b h))
    where
      first : (b : ℕ) → HasTwin rows k b ⊎ ((have_one_key (get_or rows (k - 1) blank_row) (get_or rows k blank_row) ≡ true) × ((get_or rows k blank_row).3 ≡ b)) → (get_or rows k blank_row).3 ≤ b
      first b (inl h) = absurd (least b h)
      first b (inr p) = let e = p.1 in omega arith
  twins_more (Some a) test least = (either, λ b h. first b (split b h))
    where
      either : HasTwin rows (k + 1) (min a (get_or rows k blank_row).3)
      either =
          elim (cases_lt a (get_or rows k blank_row).3) [
            | inl lt ↦ subst (HasTwin rows (k + 1)) (let e : a ≡ min a (get_or rows k blank_row).3 = omega arith in e) (further rows k a least.0)
            | inr ge ↦ subst (HasTwin rows (k + 1)) (let e : (get_or rows k blank_row).3 ≡ min a (get_or rows k blank_row).3 = omega arith in e) (here test)
          ]

      first : (b : ℕ) → HasTwin rows k b ⊎ ((have_one_key (get_or rows (k - 1) blank_row) (get_or rows k blank_row) ≡ true) × ((get_or rows k blank_row).3 ≡ b)) → min a (get_or rows k blank_row).3 ≤ b
      first b (inl h) = let e = least.1 b h in omega arith
      first b (inr p) = let e = p.1 in omega arith

-- ---- nodes stand one behind another

module _ {N : Type 0} (node : N → List ℕ) (key : N → NodeKey) (next : N → ℕ) (some : (n : N) → 0 < length (node n)) where
  from_on : (at : ℕ) (ns : List N) (j : ℕ) (d : Link) → j < length (links_from node key next at ns) → at ≤ (get_or (links_from node key next at ns) j d).at
  from_on at [] j d lt = absurd (omega arith)
  from_on at (n ∷ ns) zero d lt = omega arith
  from_on at (n ∷ ns) (suc j) d lt = let h = from_on (at + length (node n)) ns j d (omega arith) in omega arith

  rise_from : (at : ℕ) (ns : List N) → Rise (links_from node key next at ns)
  rise_from at [] i j d lt in' = absurd (omega arith)
  rise_from at (n ∷ ns) i zero d lt in' = absurd (omega arith)
  rise_from at (n ∷ ns) zero (suc j) d lt in' = let h = from_on (at + length (node n)) ns j d (omega arith) in let s = some n in omega arith
  rise_from at (n ∷ ns) (suc i) (suc j) d lt in' = rise_from (at + length (node n)) ns i j d (omega arith) (omega arith)

some_package : (n : Package) → 0 < length (package_node n)
unfolding package_node
some_package n = omega (arith, length-append (string n.name) (number 4 n.id ++ (number 4 n.start ++ (number 4 n.next ++ []))), length-string n.name)

some_flag : (n : Flag) → 0 < length (flag_node n)
unfolding flag_node
some_flag n =
    omega (arith, length-append (number 4 n.package_id) (string n.name ++ (number 2 (kind_number n.kind) ++ (number 2 n.index ++ (number 4 n.next ++ [])))), length-number 4 n.package_id)

pub packages_rise : (first : ℕ) (nodes : List Package) → Rise (package_links first nodes)
packages_rise first nodes = rise_from package_node package_key (λ n. n.next) some_package first nodes

pub flags_rise : (first : ℕ) (nodes : List Flag) → Rise (flag_links first nodes)
flags_rise first nodes = rise_from flag_node flag_node_key (λ n. n.next) some_flag first nodes

-- a slice that was written over a whole list is all of it
pub written : (new items : List Row) (n : ℕ) → n ≡ length items → length new ≡ length items → take n (new ++ drop (length new) items) ≡ new
written new items n size same =
    ap (λ (l : List Row). take n (new ++ l)) (drop_all (length new) items (omega arith)) ∙ ap (take n) (append-nil new) ∙ take_all n new (omega arith)
