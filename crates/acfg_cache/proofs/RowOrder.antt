-- The order of rows: by names, and then by lists.
use Rattle.std.proofs.Common.{◌≡◌, ℕ, ◌+◌, ◌<◌, Bool, true, false, List, [], ◌∷◌, length, map, take, get_or, Ordering, Less, Equal, Greater, is_lt, is_eq, sym, ap, subst, ◌∙◌, arith, inl, inr, IsSortedByKey}
use Rattle.std.specs.Prelude.{Contains}
use Rattle.std.specs.List.{IsDistinct}
use Rattle.std.specs.List.Sorted.{IsSortedBy}
use Rattle.std.specs.Ordering.{nat_cmp, ordering_reverse, ordering_then}
use Rattle.std.specs.Cmp.{IsTotalOrder, nat_cmp_is, on_total, ranked, then_total, tied_itself}
use Rattle.std.specs.Cmp.Lexicographic.{slice_cmp}
use Rattle.std.proofs.lemmas.Cmp.{nat_cmp_total, nat_list_cmp_total}
use Rattle.std.proofs.lemmas.Bool.{cases_lt}
use Rattle.std.proofs.lemmas.List.{get_or-map, get_or-take, get_or_default, length-take-le, length-map}
use Rattle.std.proofs.lemmas.List.Sorted.{ranks_by, sorted_far}
use Rattle.std.proofs.lemmas.Map.Keys.{apart_from_distinct}
use Rattle.acfg_decls.specs.Flags.{full_name}
use Rattle.acfg_cache.specs.Rows.{Ascend, Listed, RowKey, key_order, row_key, row_order}

pub key_total : IsTotalOrder key_order
key_total = then_total (on_total (λ (k : RowKey). k.0) nat_list_cmp_total) (on_total (λ (k : RowKey). k.1) nat_cmp_total)

-- how names stand
abbrev pub names : Listed → Listed → Ordering
names a b = slice_cmp nat_cmp (full_name a.1) (full_name b.1)

-- a lesser row has no greater name
pub not_greater : (a b : Listed) → row_order a b ≡ Less → names a b ≡ Greater → ⊥
not_greater a b less greater =
    let e : Greater ≡ Less = ap (λ r. ordering_then r (nat_cmp a.0 b.0)) (sym greater) ∙ less in
    cc

-- of two rows with one name the lesser is of an earlier list
pub earlier_list : (a b : Listed) → row_order a b ≡ Less → full_name a.1 ≡ full_name b.1 → a.0 < b.0
earlier_list a b less same =
    let tied : names a b ≡ Equal = ap (slice_cmp nat_cmp (full_name a.1)) (sym same) ∙ tied_itself nat_list_cmp_total (full_name a.1) in
    let lists : nat_cmp a.0 b.0 ≡ Less = ap (λ r. ordering_then r (nat_cmp a.0 b.0)) (sym tied) ∙ less in
    ranked a.0 b.0 Less (sym lists)

pub less_by_name : (a b : Listed) → names a b ≡ Less → row_order a b ≡ Less
less_by_name a b less = ap (λ r. ordering_then r (nat_cmp a.0 b.0)) less

pub less_by_list : (a b : Listed) → full_name a.1 ≡ full_name b.1 → a.0 < b.0 → row_order a b ≡ Less
less_by_list a b same before =
    let tied : names a b ≡ Equal = ap (slice_cmp nat_cmp (full_name a.1)) (sym same) ∙ tied_itself nat_list_cmp_total (full_name a.1) in
    ap (λ r. ordering_then r (nat_cmp a.0 b.0)) tied ∙ sym (nat_cmp_is a.0 b.0 Less before)

less_twice : (a b : Listed) → row_order a b ≡ Less → row_order b a ≡ Less → ⊥
less_twice a b one other =
    let back = key_total.antisymm (row_key a) (row_key b) in
    let e : Less ≡ Greater = sym one ∙ back ∙ ap ordering_reverse other in
    cc

less_itself : (a : Listed) → row_order a a ≡ Less → ⊥
less_itself a less =
    let tied : row_order a a ≡ Equal = tied_itself key_total (row_key a) in
    let e : Less ≡ Equal = sym less ∙ tied in
    cc

-- ---- rows at places

-- what stands before a row is less
pub before_less : (rows : List Listed) (i : ℕ) (d s : Listed) → Ascend rows → i < length rows → Contains (take i rows) s → row_order s (get_or rows i d) ≡ Less
before_less rows i d s ascend within (k, inside, is) =
    let short = length-take-le i rows (omega arith) in
    let earlier : k < i = omega (arith, short, inside) in
    let there : get_or rows k s ≡ s = sym (get_or-take i rows k s earlier) ∙ is in
    let here = get_or_default rows i s d within in
    subst (λ (x : Listed). row_order x (get_or rows i d) ≡ Less) there (subst (λ (x : Listed). row_order (get_or rows k s) x ≡ Less) here (ascend k i s earlier within))

-- what is less stands before it
pub in_before : (rows : List Listed) (i : ℕ) (d s : Listed) → Ascend rows → i < length rows → Contains rows s → row_order s (get_or rows i d) ≡ Less → Contains (take i rows) s
in_before rows i d s ascend within (k, inside, is) less =
    let short = length-take-le i rows (omega arith) in
    let here = get_or_default rows i s d within in
    elim (cases_lt k i) [
      | inl earlier ↦ (k, omega (arith, short, earlier), get_or-take i rows k s earlier ∙ is)
      | inr late ↦ elim (cases_lt i k) [
        | inl later ↦
            let behind : row_order (get_or rows i d) s ≡ Less = subst (λ (x : Listed). row_order (get_or rows i d) x ≡ Less) is (subst (λ (x : Listed). row_order x (get_or rows k s) ≡ Less) here (ascend i k s later inside)) in
            absurd (less_twice s (get_or rows i d) less behind)
        | inr not_later ↦
            let same : k ≡ i = omega (arith, late, not_later) in
            let itself : get_or rows i d ≡ s = sym here ∙ ap (λ n. get_or rows n s) (sym same) ∙ is in
            absurd (less_itself s (subst (λ (x : Listed). row_order s x ≡ Less) itself less))
      ]
    ]

pub in_whole : (rows : List Listed) (i : ℕ) (s : Listed) → i < length rows → Contains (take i rows) s → Contains rows s
in_whole rows i s within (k, inside, is) =
    let short = length-take-le i rows (omega arith) in
    let earlier : k < i = omega (arith, short, inside) in
    (k, omega (arith, earlier, within), sym (get_or-take i rows k s earlier) ∙ is)

-- ---- sorted rows that differ ascend

sorted_mapped : {P X : Type 0} (f : P → X) (lt : X → X → Bool) (ps : List P) → IsSortedBy (λ x y. lt (f x) (f y)) ps → IsSortedBy lt (map f ps)
sorted_mapped f lt [] sorted = λ k d low high. absurd (omega (arith, high))
sorted_mapped f lt (p ∷ ps) sorted = λ k d low high.
    let long = length-map (p ∷ ps) f in
    let inside : k + 1 < length (p ∷ ps) = omega (arith, high, long) in
    let one = get_or-map f (p ∷ ps) (k + 1) p d inside in
    let two = get_or-map f (p ∷ ps) k p d (omega (arith, inside)) in
    rw (one, two) (sorted k p low inside)

decided : (r s : Ordering) → r ≡ ordering_reverse s → is_lt s ≡ false → is_eq r ≡ false → r ≡ Less
decided r Less back not_less apart = cc
decided r Equal back not_less apart = let e : true ≡ false = ap is_eq (sym back) ∙ apart in cc
decided r Greater back not_less apart = back

pub ascends : {P : Type 0} (read : P → Listed) (rows : List P) → IsSortedByKey (λ row. row_key (read row)) key_order rows → IsDistinct (λ a b. is_eq (row_order a b)) (map read rows) → Ascend (map read rows)
ascends read rows sorted distinct = λ i j d before within.
    let listed = map read rows in
    let up = sorted_mapped read (λ a b. is_lt (row_order a b)) rows sorted in
    let far = sorted_far (λ a b. is_lt (row_order a b)) (ranks_by key_total row_key) listed up i j d (omega arith) within in
    let apart = apart_from_distinct (λ a b. is_eq (row_order a b)) listed i j d distinct before within in
    decided (row_order (get_or listed i d) (get_or listed j d)) (row_order (get_or listed j d) (get_or listed i d)) (key_total.antisymm (row_key (get_or listed i d)) (row_key (get_or listed j d))) far apart
