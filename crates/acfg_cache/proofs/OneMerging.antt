-- Lists have one merged list or a first clash.
use Rattle.std.proofs.Common.{◌≡◌, ℕ, zero, suc, ◌+◌, ◌<◌, ◌⊎◌, Bool, true, false, T, List, [], ◌∷◌, ◌++◌, length, map, take, drop, get_or, Option, None, Some, Ordering, Less, Equal, Greater, is_eq, refl, sym, ap, subst, ◌∙◌, arith, inl, inr}
use Rattle.std.specs.Prelude.{All, Contains}
use Rattle.std.specs.List.{AllByRecursion, IsDistinct, last_or}
use Rattle.std.specs.Ordering.{nat_cmp, ordering_reverse}
use Rattle.std.specs.Cmp.Lexicographic.{slice_cmp}
use Rattle.std.specs.FinMap.{is_sorted}
use Rattle.std.specs.FinMap.Entries.{below_all}
use Rattle.std.proofs.lemmas.Cmp.{nat_list_cmp_total}
use Rattle.std.proofs.lemmas.List.{drop-drop, get_or-drop, length-drop, take_all}
use Rattle.std.proofs.lemmas.List.Elements.{All-push}
use Rattle.std.proofs.lemmas.List.Sorted.{IsPermutation-refl}
use Rattle.acfg_base.proofs.Rows.{Less_of, T_of, first_true, second_true}
use Rattle.acfg_decls.specs.declared.flags.Flag.{Flag}
use Rattle.acfg_decls.specs.Flags.{AreFlags, IsLawful, full_name}
use Rattle.acfg_decls.proofs.Exists.{AreFresh, ordered}
use Rattle.acfg_cache.specs.Merging.{FirstClashIn, IsFirstClash, IsMerged}
use Rattle.acfg_cache.specs.Rows.{Ascend, InRows, IsNew, IsRefused, IsSame, IsTaken, Listed, RowKey, key_order, row_key, rows_of}
use Rattle.acfg_cache.proofs.RowLists.{AreRowsOf, alike, rows_distinct, rows_lawful, rows_moved}
use Rattle.acfg_cache.proofs.RowOrder.{key_total}
use Rattle.acfg_cache.proofs.Taking.{clash_of_lists, first_clash, merged_of_lists, taken_next, taken_none}

-- ---- rows have an order

-- a row ties with none of these
abbrev Fresh : List Listed → Listed → Type 0
Fresh rows y = All (λ row. key_order (row_key row) (row_key y) ≡ Equal → ⊥) rows

fresh_behind : (before : List Listed) (row : Listed) (rows : List Listed) → AllByRecursion (Fresh before) rows → AllByRecursion (λ y. alike row y ≡ false) rows → AllByRecursion (Fresh (before ++ row ∷ [])) rows
fresh_behind before row [] fresh differ = tt
fresh_behind before row (y ∷ rows) fresh differ = (
  All-push (λ other. key_order (row_key other) (row_key y) ≡ Equal → ⊥) before row fresh.0 (λ tie. let e : true ≡ false = sym (ap is_eq tie) ∙ differ.0 in cc),
  fresh_behind before row rows fresh.1 differ.1,
)

all_fresh : (before rows : List Listed) → AllByRecursion (Fresh before) rows → IsDistinct alike rows → AreFresh key_total row_key before rows
unfolding IsDistinct
all_fresh before [] fresh distinct = tt
all_fresh before (row ∷ rows) fresh distinct = (fresh.0, all_fresh (before ++ row ∷ []) rows (fresh_behind before row rows fresh.1 distinct.0) distinct.1)

none_before : (rows : List Listed) → AllByRecursion (Fresh []) rows
none_before [] = tt
none_before (row ∷ rows) = ((λ k d within. absurd (omega (arith, within))), none_before rows)

below_rows : (key : RowKey) (rows : List Listed) → T (below_all key_order key (map (λ row. (row_key row, row)) rows)) → (j : ℕ) (d : Listed) → j < length rows → key_order key (row_key (get_or rows j d)) ≡ Less
below_rows key [] below j d within = absurd (omega (arith, within))
below_rows key (row ∷ rows) below zero d within = Less_of (key_order key (row_key row)) (first_true _ _ below)
below_rows key (row ∷ rows) below (suc j) d within = below_rows key rows (second_true _ _ below) j d (omega (arith, within))

ascending : (rows : List Listed) → T (is_sorted key_order (map (λ row. (row_key row, row)) rows)) → Ascend rows
ascending [] sorted i j d before within = absurd (omega (arith, within))
ascending (row ∷ rows) sorted zero zero d before within = absurd (omega (arith, before))
ascending (row ∷ rows) sorted zero (suc j) d before within = below_rows (row_key row) rows (first_true _ _ sorted) j d (omega (arith, within))
ascending (row ∷ rows) sorted (suc i) zero d before within = absurd (omega (arith, before))
ascending (row ∷ rows) sorted (suc i) (suc j) d before within = ascending rows (second_true _ _ sorted) i j d (omega (arith, before)) (omega (arith, within))

-- ---- they are taken, or one clashes

-- how a flag stands to the last one that was taken: in one of three ways
stands : (dedup : Bool) (before : Option Flag) (flag : Flag) → (IsNew before flag → ⊥) → (IsSame dedup before flag → ⊥) → (IsRefused dedup before flag → ⊥) → ⊥
stands dedup None flag new same refused = new tt
stands dedup (Some last) flag new same refused = by (slice_cmp nat_cmp (full_name flag) (full_name last)) refl
  where
    quarrels : (b : Bool) → dedup ≡ b → slice_cmp nat_cmp (full_name flag) (full_name last) ≡ Equal → ⊥
    quarrels false never named = refused (record { other = last; last = refl; named = named; quarrel = inl never })
    quarrels true once named = refused (record {
      other = last;
      last = refl;
      named = named;
      quarrel = inr (λ one. same (record { last = ap (λ (f : Flag). Some f) one; once = once }));
    })

    by : (r : Ordering) → slice_cmp nat_cmp (full_name flag) (full_name last) ≡ r → ⊥
    by Less is = new (λ tied. let e : Less ≡ Equal = sym is ∙ tied in cc)
    by Equal is = quarrels dedup refl is
    by Greater is = new (λ tied. let e : Greater ≡ Equal = sym is ∙ tied in cc)

module _ (dedup : Bool) (rows : List Listed) (ascend : Ascend rows) (lawful : All (λ (row : Listed). IsLawful row.1) rows) (none_taken : (flags : List Flag) → IsTaken dedup rows flags → ⊥) (none_clash : (i : ℕ) (name : List ℕ) → FirstClashIn (InRows rows) dedup i name → ⊥) where
  take_on : (rest : List Listed) (i : ℕ) (flags : List Flag) → drop i rows ≡ rest → IsTaken dedup (take i rows) flags → ⊥
  take_on [] i flags left taken =
      let long = length-drop i rows in
      let ended = ap length left in
      none_taken flags (subst (λ (rs : List Listed). IsTaken dedup rs flags) (take_all i rows (omega (arith, long, ended))) taken)
  take_on (row ∷ rest) i flags left taken =
      let long = length-drop i rows in
      let some = ap length left in
      let within : i < length rows = omega (arith, long, some) in
      let place : i + 0 ≡ i = omega arith in
      let here : get_or rows i row ≡ row = ap (λ n. get_or rows n row) (sym place) ∙ sym (get_or-drop i rows 0 row) ∙ ap (λ (rs : List Listed). get_or rs 0 row) left in
      let behind : drop (i + 1) rows ≡ rest = sym (drop-drop 1 i rows) ∙ ap (drop 1) left in
      stands dedup (last_or None flags) row.1
      (λ new. take_on rest (i + 1) (flags ++ row.1 ∷ []) behind
      (taken_next dedup rows i row flags (flags ++ row.1 ∷ []) ascend lawful within taken (inl (subst (λ (r : Listed). IsNew (last_or None flags) r.1) (sym here) new, ap (λ (r : Listed). flags ++ r.1 ∷ []) (sym here)))))
      (λ same. take_on rest (i + 1) flags behind
      (taken_next dedup rows i row flags flags ascend lawful within taken (inr (subst (λ (r : Listed). IsSame dedup (last_or None flags) r.1) (sym here) same, refl))))
      (λ refused. none_clash (get_or rows i row).0 (full_name (get_or rows i row).1)
      (first_clash dedup rows i row flags (get_or rows i row).0 (full_name (get_or rows i row).1) ascend within taken
      (record { refused = subst (λ (r : Listed). IsRefused dedup (last_or None flags) r.1) (sym here) refused; list = refl; named = refl })))

pub some_merging : (lists : List (List Flag)) (dedup : Bool) → All AreFlags lists → ((flags : List Flag) → IsMerged lists dedup flags → ⊥) → ((i : ℕ) (name : List ℕ) → IsFirstClash lists dedup i name → ⊥) → ⊥
some_merging lists dedup lawful merge clash =
    let rows = rows_of 0 lists in
    let order = ordered key_total row_key [] [] (IsPermutation-refl []) refl rows (all_fresh [] rows (none_before rows) (rows_distinct 0 lists lawful)) in
    let sorted : List Listed = order.0 in
    let are : AreRowsOf lists sorted = rows_moved lists rows sorted lawful refl order.1 in
    take_on dedup sorted (ascending sorted (T_of _ order.2)) (rows_lawful lists sorted lawful are)
    (λ flags taken. merge flags (merged_of_lists lists sorted dedup flags are taken))
    (λ i name first. clash i name (clash_of_lists lists sorted dedup i name are first))
    sorted 0 [] refl (taken_none dedup)

-- ---- one merged list

abbrev names_order : Flag → Flag → Ordering
names_order flag other = slice_cmp nat_cmp (full_name flag) (full_name other)

below_one : (flag : Flag) (flags : List Flag) → T (below_all (slice_cmp nat_cmp) (full_name flag) (map (λ f. (full_name f, f)) flags)) → (other : Flag) → Contains flags other → names_order flag other ≡ Less
below_one flag [] below other (k, within, is) = absurd (omega (arith, within))
below_one flag (next ∷ flags) below other (zero, within, is) =
    subst (λ (f : Flag). names_order flag f ≡ Less) is (Less_of (names_order flag next) (first_true _ _ below))
below_one flag (next ∷ flags) below other (suc k, within, is) = below_one flag flags (second_true _ _ below) other (k, omega (arith, within), is)

in_cons : (flag : Flag) (flags : List Flag) (other : Flag) → Contains (flag ∷ flags) other → (flag ≡ other) ⊎ Contains flags other
in_cons flag flags other (zero, within, is) = inl is
in_cons flag flags other (suc k, within, is) = inr (k, omega (arith, within), is)

behind_one : (flag : Flag) (flags : List Flag) (other : Flag) → Contains flags other → Contains (flag ∷ flags) other
behind_one flag flags other (k, within, is) = (suc k, omega (arith, within), is)

never_both : (flag other : Flag) → names_order flag other ≡ Less → names_order other flag ≡ Less → ⊥
never_both flag other one two =
    let back = nat_list_cmp_total.antisymm (full_name flag) (full_name other) in
    let e : Less ≡ Greater = sym one ∙ back ∙ ap ordering_reverse two in
    cc

abbrev Sorted : List Flag → Type 0
Sorted flags = T (is_sorted (slice_cmp nat_cmp) (map (λ f. (full_name f, f)) flags))

-- a flag behind the first one stands behind the other list's first one
kept : (a : Flag) (rest : List Flag) (b : Flag) (more : List Flag) → a ≡ b → T (below_all (slice_cmp nat_cmp) (full_name a) (map (λ f. (full_name f, f)) rest)) → ((f : Flag) → Contains (a ∷ rest) f → Contains (b ∷ more) f)
    → (f : Flag) → Contains rest f → Contains more f
kept a rest b more one below goes f has = elim (in_cons b more f (goes f (behind_one a rest f has))) [
  | inl same ↦
      let less = below_one a rest below f has in
      let itself : names_order a a ≡ Less = subst (λ (g : Flag). names_order a g ≡ Less) (sym (one ∙ same)) less in
      absurd (never_both a a itself itself)
  | inr there ↦ there
]

-- two lists in order with the same flags begin with one flag
heads : (flag : Flag) (flags : List Flag) (other : Flag) (others : List Flag) → T (below_all (slice_cmp nat_cmp) (full_name flag) (map (λ f. (full_name f, f)) flags))
    → T (below_all (slice_cmp nat_cmp) (full_name other) (map (λ f. (full_name f, f)) others)) → Contains (other ∷ others) flag → Contains (flag ∷ flags) other → flag ≡ other
heads flag flags other others below under here there = elim (in_cons other others flag here) [
  | inl same ↦ sym same
  | inr later ↦ elim (in_cons flag flags other there) [
    | inl same ↦ same
    | inr behind ↦ absurd (never_both flag other (below_one flag flags below other behind) (below_one other others under flag later))
  ]
]

same_lists : (flags others : List Flag) → Sorted flags → Sorted others → ((f : Flag) → Contains flags f → Contains others f) → ((f : Flag) → Contains others f → Contains flags f) → flags ≡ others
same_lists [] [] sorted rising to back = refl
same_lists [] (other ∷ others) sorted rising to back = let has = back other (0, omega arith, refl) in absurd (omega (arith, has.1))
same_lists (flag ∷ flags) [] sorted rising to back = let has = to flag (0, omega arith, refl) in absurd (omega (arith, has.1))
same_lists (flag ∷ flags) (other ∷ others) sorted rising to back =
    let below = first_true _ _ sorted in
    let under = first_true _ _ rising in
    let first : flag ≡ other = heads flag flags other others below under (to flag (0, omega arith, refl)) (back other (0, omega arith, refl)) in
    let rest : flags ≡ others =
    same_lists flags others (second_true _ _ sorted) (second_true _ _ rising)
    (λ f has. kept flag flags other others first below to f has)
    (λ f has. kept other others flag flags (sym first) under back f has) in
    ap (λ (f : Flag). f ∷ flags) first ∙ ap (λ (fs : List Flag). other ∷ fs) rest

pub merged_once : (lists : List (List Flag)) (dedup : Bool) (flags other : List Flag) → IsMerged lists dedup flags → IsMerged lists dedup other → flags ≡ other
merged_once lists dedup flags other here there =
    same_lists flags other (T_of _ here.are.sorted) (T_of _ there.are.sorted)
    (λ f has. let found = here.from f has in there.all found.0 f found.1)
    (λ f has. let found = there.from f has in here.all found.0 f found.1)
