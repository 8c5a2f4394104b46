-- The order of keys, and what lists of entries say of twins.
use Rattle.std.proofs.Common.{◌≡◌, ℕ, zero, suc, ◌+◌, ◌<◌, ◌≤◌, Bool, true, false, cond, T, List, [], ◌∷◌, map, length, get_or, count_by, IsPermutation, IsSortedByKey, refl, sym, ap, ◌∙◌, true≢false, Ordering, Less, Equal, Greater, is_lt, is_eq, arith, add-one, subst, ap₂, ◌&&◌, Option, None, Some, option_map}
use Rattle.std.specs.Ordering.{nat_cmp, eq_by_cmp, ordering_reverse}
use Rattle.std.specs.Cmp.{IsTotalOrder, then_total, on_total, tied_itself}
use Rattle.std.specs.Cmp.Lexicographic.{slice_cmp, nat_list_cmp_total}
use Rattle.std.specs.FinMap.{IsAntisymmetric, entries, entries_sorted, find, get-entries, get-from_entries, is_sorted, len, same_map}
use Rattle.std.specs.FinMap.Entries.{below_all}
use Rattle.std.proofs.lemmas.List.Elements.{All-contains}
use Rattle.std.proofs.lemmas.List.Sums.{sum_by-cons}
use Rattle.std.proofs.lemmas.List.Sorted.{sum_by-IsPermutation}
use Rattle.std.proofs.lemmas.Map.Lookups.{exact_bytes, exact_pairs}
use Rattle.acfg_base.specs.declared.releases.Entry.{Entry}
use Rattle.acfg_base.specs.declared.releases.Kind.TheVariants.{ReadWrite}
use Rattle.acfg_base.specs.Places.{AreInOrder, row_at, SomeStepDown}
use Rattle.acfg_base.specs.declared.releases.Kind.{Kind}
use Rattle.acfg_base.specs.Release.{Key, ReleaseMap, key_cmp, key_of, facts_of, entry_at, release_of, entries_of, AreNamed, HasLawfulKeys, HasTwins, IsKey}
use Rattle.acfg_base.proofs.Rows.{T_of, first_true, second_true, Less_of, Equal_of, entries-map_of, len-map_of, map_of-permuted, true_of, AreInOrder-map, get-map_of, row_at-found}

pub key_total : IsTotalOrder key_cmp
key_total = then_total (on_total (λ (k : Key). k.0) nat_list_cmp_total) (on_total (λ (k : Key). k.1) nat_list_cmp_total)

pub key_exact : IsAntisymmetric key_cmp
key_exact = exact_pairs (slice_cmp nat_cmp) (slice_cmp nat_cmp) exact_bytes exact_bytes

-- whether an entry has the key
abbrev has_key : Key → Entry → Bool
has_key key entry = eq_by_cmp key_cmp key (key_of entry)

count_by-cons : (key : Key) (e : Entry) (es : List Entry) → count_by (has_key key) (e ∷ es) ≡ cond (has_key key e) 1 0 + count_by (has_key key) es
count_by-cons key e es = sum_by-cons (λ x. cond (has_key key x) 1 0) e es

some_counted : (key : Key) (es : List Entry) (i : ℕ) (d : Entry) → i < length es → has_key key (get_or es i d) ≡ true → 0 < count_by (has_key key) es
some_counted key [] i d within has = absurd (omega arith)
some_counted key (e ∷ es) zero d within has = let counted = count_by-cons key e es ∙ ap (λ b. cond b 1 0 + count_by (has_key key) es) has in omega (arith, counted)
some_counted key (e ∷ es) (suc i) d within has =
    omega (arith, count_by-cons key e es, some_counted key es i d (omega arith) has)

two_counted : (key : Key) (es : List Entry) (i : ℕ) (d : Entry) → suc i < length es → has_key key (get_or es i d) ≡ true → has_key key (get_or es (suc i) d) ≡ true → 1 < count_by (has_key key) es
two_counted key [] i d within has more = absurd (omega arith)
two_counted key (e ∷ es) zero d within has more =
    let counted = count_by-cons key e es ∙ ap (λ b. cond b 1 0 + count_by (has_key key) es) has in
    omega (arith, counted, some_counted key es 0 d (omega arith) more)
two_counted key (e ∷ es) (suc i) d within has more =
    omega (arith, count_by-cons key e es, two_counted key es i d (omega arith) has more)

none_counted : (key low : Key) (es : List Entry) → key_cmp key low ≡ Equal → T (below_all key_cmp low (map (λ e. (key_of e, e)) es)) → count_by (has_key key) es ≡ 0
none_counted key low [] same below = refl
none_counted key low (e ∷ es) same below =
    let apart : key_cmp key (key_of e) ≡ Less = key_total.congr key low (key_of e) same ∙ Less_of _ (first_true _ _ below) in
    let counted = count_by-cons key e es ∙ ap (λ r. cond (is_eq r) 1 0 + count_by (has_key key) es) apart in
    omega (arith, counted, none_counted key low es same (second_true _ _ below))

one_counted : (key : Key) (es : List Entry) → T (is_sorted key_cmp (map (λ e. (key_of e, e)) es)) → count_by (has_key key) es ≤ 1
one_counted key [] sorted = omega arith
one_counted key (e ∷ es) sorted =
    elim (has_key key e) as (λ b. has_key key e ≡ b → count_by (has_key key) (e ∷ es) ≤ 1) [
      | true ↦ λ has.
          let rest = none_counted key (key_of e) es (Equal_of _ has) (first_true _ _ sorted) in
          let counted = count_by-cons key e es ∙ ap (λ b. cond b 1 0 + count_by (has_key key) es) has in
          omega (arith, counted, rest)
      | false ↦ λ has.
          let counted = count_by-cons key e es ∙ ap (λ b. cond b 1 0 + count_by (has_key key) es) has in
          omega (arith, counted, one_counted key es (second_true _ _ sorted))
    ] refl

-- entries in order of rising keys have no twins, whatever order they came in
pub no_twins : (xs ys : List Entry) → IsPermutation xs ys → AreInOrder key_cmp key_of ys → HasTwins xs → ⊥
no_twins xs ys moved sorted twins =
    let same = sum_by-IsPermutation (λ x. cond (has_key twins.0 x) 1 0) xs ys moved in
    omega (arith, twins.1, same, one_counted twins.0 ys (T_of _ sorted))

-- neighbours of which neither is less have one key
tied : (r s : Ordering) → r ≡ ordering_reverse s → is_lt r ≡ false → is_lt s ≡ false → r ≡ Equal
tied Less s e a b = absurd (true≢false a)
tied Equal s e a b = refl
tied Greater Less e a b = absurd (true≢false b)
tied Greater Equal e a b = cc
tied Greater Greater e a b = cc

-- entries that don't rise, once sorted, have twins
pub twins_found : (xs ys : List Entry) → IsPermutation xs ys → IsSortedByKey key_of key_cmp ys → SomeStepDown key_cmp key_of ys → HasTwins xs
twins_found xs ys moved sorted (k, within, stops) =
    let inside : suc k < length ys = omega arith in
    let d : Entry = record { «package» = []; flag = []; kind = ReadWrite; value = false } in
    let more : get_or ys (k + 1) d ≡ get_or ys (suc k) d = ap (λ n. get_or ys n d) (add-one k) in
    let key = key_of (get_or ys k d) in
    let next = key_of (get_or ys (k + 1) d) in
    let same = tied _ _ (key_total.antisymm key next) (stops d) (sorted k d (omega arith) within) in
    let many = two_counted key ys k d inside (ap is_eq (tied_itself key_total key)) (ap (λ e. is_eq (key_cmp key (key_of e))) (sym more) ∙ ap is_eq same) in
    let counted = sum_by-IsPermutation (λ x. cond (has_key key x) 1 0) xs ys moved in
    (key, omega (arith, many, counted))

-- the release of entries in any order is that of the entries in order
pub release_permuted : (xs ys : List Entry) → IsPermutation xs ys → AreInOrder key_cmp key_of ys → release_of ys ≡ release_of xs
release_permuted = map_of-permuted key_total key_of key_exact facts_of

entries_back : (es : List Entry) → map entry_at (map (λ e. (key_of e, facts_of e)) es) ≡ es
entries_back [] = refl
entries_back (e ∷ es) = ap (λ rest. e ∷ rest) (entries_back es)

-- entries in order are those of the release that they make
pub entries_of-release_of : (es : List Entry) → AreInOrder key_cmp key_of es → entries_of (release_of es) ≡ es
entries_of-release_of es sorted = ap (map entry_at) (entries-map_of key_total key_of key_exact facts_of es sorted) ∙ entries_back es

-- the entries of a release are in order, and make it
pub entries_of-in_order : (release : ReleaseMap) → AreInOrder key_cmp key_of (entries_of release)
entries_of-in_order release = AreInOrder-map key_total key_of entry_at (entries release) (true_of _ (subst T (sym (same_order (entries release))) (entries_sorted release)))
  where
    same_below : (x : Key) (es : List (Key × (Kind × Bool))) → below_all key_cmp x (map (λ e. (e.0, e)) es) ≡ below_all key_cmp x es
    same_below x [] = refl
    same_below x (e ∷ es) = ap (λ b. is_lt (key_cmp x e.0) && b) (same_below x es)

    same_order : (es : List (Key × (Kind × Bool))) → is_sorted key_cmp (map (λ e. (e.0, e)) es) ≡ is_sorted key_cmp es
    same_order [] = refl
    same_order (e ∷ es) = ap₂ ◌&&◌ (same_below e.0 es) (same_order es)

pub release_of-entries_of : (release : ReleaseMap) → release_of (entries_of release) ≡ release
release_of-entries_of release = same_map key_total key_exact _ _ (λ q. get-from_entries key_total _ q ∙ ap (find key_cmp q) (back (entries release)) ∙ sym (get-entries release q))
  where
    back : (es : List (Key × (Kind × Bool))) → map (λ e. (key_of e, facts_of e)) (map entry_at es) ≡ es
    back [] = refl
    back (e ∷ es) = ap (λ rest. e ∷ rest) (back es)

pub len-release_of : (es : List Entry) → AreInOrder key_cmp key_of es → len (release_of es) ≡ length es
len-release_of = len-map_of key_total key_of key_exact facts_of

-- the release of entries of lawful names has lawful keys
pub named_keys : (es : List Entry) → AreNamed es → HasLawfulKeys (release_of es)
named_keys es named = record { each = λ key facts has. found key facts (row_at key_cmp key_of es key) refl (sym (get-map_of key_total key_of facts_of es key) ∙ has) }
  where
    found : (key : Key) (facts : Kind × Bool) (row : Option Entry) → row_at key_cmp key_of es key ≡ row → option_map facts_of row ≡ Some facts → IsKey key
    found key facts None is has = cc
    found key facts (Some e) is has =
        let there = row_at-found key_total key_of es key e is in
        subst IsKey (key_exact _ _ there.1) (All-contains (λ entry. IsKey (key_of entry)) es e named there.0)
