-- Flags that were found one by one are the flags that a set lists.
use Rattle.std.proofs.Common.{◌≡◌, ℕ, zero, suc, ◌<◌, Bool, true, false, cond, ◌&&◌, List, [], ◌∷◌, ◌++◌, map, length, get_or, Option, Some, None, option_map, refl, sym, ap, ◌∙◌, subst, arith, find}
use Rattle.std.specs.Prelude.{All, Contains}
use Rattle.std.specs.FinMap.{get}
use Rattle.std.specs.Ordering.{eq_by_cmp}
use Rattle.std.specs.Str.{bytes_eq}
use Rattle.std.specs.Cmp.{tied_itself}
use Rattle.std.proofs.lemmas.List.Elements.{All-append, All-contains}
use Rattle.std.proofs.lemmas.List.{get_or_default, map-append}
use Rattle.std.proofs.lemmas.Slice.Eq.{bytes_eq-Decides}
use Rattle.acfg_base.specs.declared.releases.Entry.{Entry}
use Rattle.acfg_base.specs.declared.releases.Kind.{Kind}
use Rattle.acfg_base.specs.declared.releases.Kind.TheVariants.{ReadWrite}
use Rattle.acfg_base.specs.Places.{row_at}
use Rattle.acfg_base.specs.Release.{Key, ReleaseMap, entries_of, facts_of, key_cmp, key_of}
use Rattle.acfg_base.proofs.Keys.{key_total, key_exact, entries_of-in_order, release_of-entries_of}
use Rattle.acfg_base.proofs.Rows.{AreInOrder-same_keys, Equal_of, get-map_of, row_at-found, row_at-map, row_at-member}
use Rattle.acfg_images.specs.Files as four
use Rattle.acfg_images.specs.Set.{IsSetOf, Listed, SetParts, flags_of, index_of, listed, listed_flag, listed_key, listing, packages_of, release_in}
use Rattle.acfg_images.specs.declared.purpose.Use.{Use}
use Rattle.acfg_images.specs.Faults.{HasNoFault, Opened, flags_in, parts_in}
use Rattle.acfg_images.proofs.Pigeon.{AreNumbered-below}
use Rattle.acfg_images.proofs.Walk.{length-nodes_in}
use Rattle.acfg_lookup.proofs.Sound.{sound}
use Rattle.acfg_views.specs.Layout.{Flag}
use Rattle.acfg_views.specs.Reading.{flag_at}
use Rattle.std.proofs.lemmas.List.{get_or-map, length-map}
use Rattle.acfg_lookup.specs.Lookup.{flag_found}
use Rattle.acfg_store.specs.declared.placed.Placed.{Placed}
use Rattle.acfg_store.proofs.OwnKeys.{itself, own_keys}
use Rattle.acfg_store.specs.Placed.{AreFlagsOf, IsTold, as_listed, placed_key}

-- ---- by names and by keys

bools : (p q : Bool) → (p ≡ true → q ≡ true) → (q ≡ true → p ≡ true) → p ≡ q
bools true true there back = refl
bools true false there back = sym (there refl)
bools false true there back = back refl
bools false false there back = refl

both : (p q : Bool) → (p && q) ≡ true → (p ≡ true) × (q ≡ true)
both true q e = (refl, e)
both false q e = absurd cc

same_test : (a b : List ℕ) (z : Listed) → (bytes_eq z.package a && bytes_eq z.flag b) ≡ eq_by_cmp key_cmp (a, b) (listed_key z)
same_test a b z = bools _ _ there back
  where
    key : List ℕ → List ℕ → Key
    key x y = (x, y)

    there : (bytes_eq z.package a && bytes_eq z.flag b) ≡ true → eq_by_cmp key_cmp (a, b) (listed_key z) ≡ true
    there e =
        let p = both (bytes_eq z.package a) (bytes_eq z.flag b) e in
        let m = (bytes_eq-Decides z.package a).0 p.0 in
        let n = (bytes_eq-Decides z.flag b).0 p.1 in
        itself (key a b) (listed_key z) (λ i. key (sym m i) (sym n i))

    back : eq_by_cmp key_cmp (a, b) (listed_key z) ≡ true → (bytes_eq z.package a && bytes_eq z.flag b) ≡ true
    back e =
        let k : key a b ≡ listed_key z = key_exact (key a b) (listed_key z) (Equal_of _ e) in
        let m = (bytes_eq-Decides z.package a).1 (ap (λ (k : Key). k.0) (sym k)) in
        let n = (bytes_eq-Decides z.flag b).1 (ap (λ (k : Key). k.1) (sym k)) in
        rw (m, n) refl

pub listed_is : (parts : SetParts) (a b : List ℕ) → listed parts a b ≡ row_at key_cmp listed_key (listing parts) (a, b)
listed_is parts a b = go (listing parts)
  where
    go : (rows : List Listed) → find (λ (row : Listed). bytes_eq row.package a && bytes_eq row.flag b) rows ≡ row_at key_cmp listed_key rows (a, b)
    go [] = refl
    go (z ∷ rows) =
        ap (λ (t : Bool). cond t (Some z) (find (λ (row : Listed). bytes_eq row.package a && bytes_eq row.flag b) rows)) (same_test a b z)
        ∙ ap (λ (r : Option Listed). cond (eq_by_cmp key_cmp (a, b) (listed_key z)) (Some z) r) (go rows)

-- ---- how many there are, and their indexes

abbrev no_flag : Flag
no_flag = record { package_id = 0; name = []; kind = ReadWrite; index = 0; next = 0 }

pub flag_count : (opened : Opened) → HasNoFault opened → opened.flag_map.count ≡ length (listing (parts_in opened))
flag_count opened none =
    sym (length-map (flags_of (parts_in opened)) (listed_flag (parts_in opened)) ∙ length-nodes_in flag_at opened.flag_map (flags_in opened) (sound opened none).flag_nodes.read_so)

pub indexes_below : (purpose : Use) (files : four.Files) (parts : SetParts) → IsSetOf files purpose parts → All (λ (row : Listed). row.index < length (listing parts)) (listing parts)
indexes_below purpose files parts is k d within =
    let f : Flag → Listed = listed_flag parts in
    let flag = get_or (flags_of parts) k no_flag in
    let index = index_of (packages_of parts) in
    let len = length-map (flags_of parts) f in
    let inside : k < length (flags_of parts) = omega (arith, within, len) in
    let ilen = length-map (flags_of parts) index in
    let h = AreNumbered-below (map index (flags_of parts)) is.agree.indexes k (index no_flag) (omega (arith, ilen, inside)) in
    let e : get_or (map index (flags_of parts)) k (index no_flag) ≡ index flag = get_or-map index (flags_of parts) k no_flag (index no_flag) inside in
    let row : get_or (listing parts) k d ≡ f flag = get_or_default (listing parts) k d (f no_flag) within ∙ get_or-map f (flags_of parts) k no_flag (f no_flag) inside in
    let at : (get_or (listing parts) k d).index ≡ index flag = ap (λ (r : Listed). r.index) row in
    omega (arith, h, e, at, len, ilen)

-- ---- what was found

some_is : {A : Type 0} (x y : A) → Some x ≡ Some y → x ≡ y
some_is x y e = cc

abbrev kept : Listed → Kind × Bool
kept row = (row.kind, row.value)

module _ (parts : SetParts) where
  get_release : (q : Key) → option_map kept (row_at key_cmp listed_key (listing parts) q) ≡ option_map facts_of (row_at key_cmp key_of (entries_of (release_in parts)) q)
  get_release q =
      sym (get-map_of key_total listed_key kept (listing parts) q) ∙ ap (λ (m : ReleaseMap). get m q) (sym (release_of-entries_of (release_in parts)))
      ∙ get-map_of key_total key_of facts_of (entries_of (release_in parts)) q

  -- a flag of the release is found
  pub is_there : (e : Entry) → Contains (entries_of (release_in parts)) e → None ≡ option_map flag_found (listed parts e.package e.flag) → ⊥
  is_there e in_list none =
      let entry = row_at-member key_total key_of (entries_of (release_in parts)) (entries_of-in_order (release_in parts)) (key_of e) e in_list (tied_itself key_total (key_of e)) in
      let got = get_release (key_of e) ∙ ap (option_map facts_of) entry in
      apart (row_at key_cmp listed_key (listing parts) (key_of e)) got (none ∙ ap (option_map flag_found) (listed_is parts e.package e.flag))
    where
      apart : (r : Option Listed) → option_map kept r ≡ Some (facts_of e) → None ≡ option_map flag_found r → ⊥
      apart None p q = cc
      apart (Some row) p q = cc

  module _ (rows : List Placed) (same : map placed_key rows ≡ map key_of (entries_of (release_in parts))) (told : All (IsTold parts) rows) where
    row_there : (q : Key) → option_map placed_key (row_at key_cmp placed_key rows q) ≡ option_map key_of (row_at key_cmp key_of (entries_of (release_in parts)) q)
    row_there q =
        sym (row_at-map key_total (λ (k : Key). k) placed_key rows q) ∙ ap (λ (ks : List Key). row_at key_cmp (λ (k : Key). k) ks q) same
        ∙ row_at-map key_total (λ (k : Key). k) key_of (entries_of (release_in parts)) q

    found_at : (q : Key) (r : Option Placed) (e : Option Entry) (l : Option Listed) → row_at key_cmp placed_key rows q ≡ r → row_at key_cmp listed_key (listing parts) q ≡ l
        → option_map placed_key r ≡ option_map key_of e → option_map kept l ≡ option_map facts_of e → l ≡ option_map as_listed r
    found_at q None None None r-is l-is p g = refl
    found_at q None None (Some row) r-is l-is p g = absurd cc
    found_at q None (Some e) l r-is l-is p g = absurd cc
    found_at q (Some x) None l r-is l-is p g = absurd cc
    found_at q (Some x) (Some e) None r-is l-is p g = absurd cc
    found_at q (Some x) (Some e) (Some row) r-is l-is p g =
        let at = row_at-found key_total placed_key rows q x r-is in
        let k : placed_key x ≡ q = key_exact (placed_key x) q at.1 in
        let t : IsTold parts x = All-contains (IsTold parts) rows x told at.0 in
        let here : row_at key_cmp listed_key (listing parts) (placed_key x) ≡ Some row = ap (row_at key_cmp listed_key (listing parts)) k ∙ l-is in
        let f : x.found ≡ flag_found row = some_is _ _ (t ∙ ap (option_map flag_found) (listed_is parts x.package x.flag ∙ here)) in
        let m : listed_key row ≡ placed_key x = key_exact (listed_key row) q (row_at-found key_total listed_key (listing parts) q row l-is).1 ∙ sym k in
        ap (λ (r : Listed). Some r) (as_one row x m (sym f))
      where
        as_one : (row : Listed) (x : Placed) → listed_key row ≡ placed_key x → flag_found row ≡ x.found → row ≡ as_listed x
        as_one row x m f = λ i. record {
          «package» = (m i).0;
          flag = (m i).1;
          kind = (f i).kind;
          value = (f i).value;
          bits = (f i).bits;
          index = (f i).index;
        }

    pub flags_found : (purpose : Use) (files : four.Files) → IsSetOf files purpose parts → AreFlagsOf parts rows
    flags_found purpose files is = record {
      order = AreInOrder-same_keys key_total placed_key key_of rows (entries_of (release_in parts)) same ∙ entries_of-in_order (release_in parts);
      found = λ q. found_at q (row_at key_cmp placed_key rows q) (row_at key_cmp key_of (entries_of (release_in parts)) q) (row_at key_cmp listed_key (listing parts) q) refl refl (row_there q) (get_release q);
      own = own_keys purpose files parts is;
    }

-- ---- all of the flags, one way and the other

module _ (parts : SetParts) (rows : List Placed) (are : AreFlagsOf parts rows) where
  -- a flag that code holds is listed
  listed_there : (x : Placed) → Contains rows x → Contains (listing parts) (as_listed x)
  listed_there x in_list =
      let at = row_at-member key_total placed_key rows are.order (placed_key x) x in_list (tied_itself key_total (placed_key x)) in
      (row_at-found key_total listed_key (listing parts) (placed_key x) (as_listed x) (are.found (placed_key x) ∙ ap (option_map as_listed) at)).0

  -- and a listed one is held
  pub held_there : (row : Listed) → Contains (listing parts) row → (x : Placed) × Contains rows x × (as_listed x ≡ row) × (row_at key_cmp placed_key rows (listed_key row) ≡ Some x)
  held_there row in_list =
      let own = All-contains (λ (r : Listed). row_at key_cmp listed_key (listing parts) (listed_key r) ≡ Some r) (listing parts) row are.own in_list in
      go (row_at key_cmp placed_key rows (listed_key row)) refl (sym (are.found (listed_key row)) ∙ own)
    where
      go : (r : Option Placed) → row_at key_cmp placed_key rows (listed_key row) ≡ r → option_map as_listed r ≡ Some row
          → (x : Placed) × Contains rows x × (as_listed x ≡ row) × (row_at key_cmp placed_key rows (listed_key row) ≡ Some x)
      go None is e = absurd cc
      go (Some x) is e = (x, (row_at-found key_total placed_key rows (listed_key row) x is).0, some_is (as_listed x) row e, is)

  among : {X : Type 0} (xs : List X) (k : ℕ) (d : X) → k < length xs → Contains xs (get_or xs k d)
  among xs k d within = (k, within, get_or_default xs k (get_or xs k d) d within)

  pub all_held : (P : Listed → Type 0) → All P (listing parts) → All (λ (x : Placed). P (as_listed x)) rows
  all_held P all k d within = All-contains P (listing parts) (as_listed (get_or rows k d)) all (listed_there (get_or rows k d) (among rows k d within))

  pub all_listed : (P : Listed → Type 0) → All (λ (x : Placed). P (as_listed x)) rows → All P (listing parts)
  all_listed P all k d within =
      let h = held_there (get_or (listing parts) k d) (among (listing parts) k d within) in
      subst P h.2 (All-contains (λ (x : Placed). P (as_listed x)) rows h.0 all h.1)

-- ---- one flag more

pub one_more : (parts : SetParts) (rows : List Placed) (entries : List Entry) (row : Placed) (entry : Entry) → placed_key row ≡ key_of entry → IsTold parts row
    → (map placed_key rows ≡ map key_of entries) × All (IsTold parts) rows
    → (map placed_key (rows ++ row ∷ []) ≡ map key_of (entries ++ entry ∷ [])) × All (IsTold parts) (rows ++ row ∷ [])
one_more parts rows entries row entry key told so = (
  map-append placed_key rows (row ∷ []) ∙ ap (λ (ks : List Key). ks ++ placed_key row ∷ []) so.0 ∙ ap (λ (k : Key). map key_of entries ++ k ∷ []) key
      ∙ sym (map-append key_of entries (entry ∷ [])),
  All-append (IsTold parts) rows (row ∷ []) so.1 (only row told),
)
  where
    only : (row : Placed) → IsTold parts row → All (IsTold parts) (row ∷ [])
    only row told zero d within = told
    only row told (suc k) d within = absurd (omega (arith, within))
