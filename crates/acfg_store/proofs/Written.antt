-- Files with a byte put for each flag hold the flags' overrides.
use Rattle.std.proofs.Common.{◌≡◌, ◌⊎◌, ℕ, ◌<◌, Bool, true, eqb, List, map, length, get_or, Option, Some, None, option_map, inl, inr, refl, sym, ap, ◌∙◌, subst, arith}
use Rattle.std.specs.Prelude.{Contains}
use Rattle.std.specs.FinMap.{get}
use Rattle.std.specs.Cmp.{tied_itself}
use Rattle.std.proofs.lemmas.Bool.{cases_eq}
use Rattle.std.proofs.lemmas.Bool.Decides.{nat_tests}
use Rattle.std.proofs.lemmas.List.{get_or-map, get_or_default, length-map}
use Rattle.std.proofs.lemmas.List.Elements.{All-contains}
use Rattle.std.proofs.lemmas.Simd.{map-map}
use Rattle.acfg_base.specs.declared.releases.Kind.{Kind}
use Rattle.acfg_base.specs.Places.{row_at}
use Rattle.acfg_base.specs.Release.{ReleaseMap, entries_of, facts_of, key_cmp, key_of}
use Rattle.acfg_base.proofs.Keys.{entries_of-release_of, key_exact, key_total}
use Rattle.acfg_base.proofs.Rows.{AreInOrder-map, get-map_of, map_of-map, row_at-found, row_at-member}
use Rattle.acfg_images.specs.declared.purpose.Use.TheVariants as purpose
use Rattle.acfg_images.specs.Files as four
use Rattle.acfg_images.specs.Set.{Listed, SetParts, flags_of, listed_flag, listed_key, listing}
use Rattle.acfg_images.specs.Words.{AreNumbered}
use Rattle.acfg_images.proofs.Pigeon.{AreNumbered-below, counted_twice}
use Rattle.acfg_model.specs.Bodies.{entry_in}
use Rattle.acfg_model.specs.declared.containers.FlagState.{FlagState}
use Rattle.acfg_model.specs.FlagStates.{release_in, row_key}
use Rattle.acfg_store.specs.Kept.{index_listed}
use Rattle.acfg_store.specs.Stamped.{AreFlagsIn, ArePut}
use Rattle.acfg_store.proofs.OwnKeys.{own_keys}

some_is : {A : Type 0} (x y : A) → Some x ≡ Some y → x ≡ y
some_is x y e = cc

tested : (a b : ℕ) → a ≡ b → eqb a b ≡ true
tested a b e = grind (arith, nat_tests)

abbrev place : Listed → ℕ
place row = row.index

abbrev pub facts : Listed → Kind × Bool
facts row = (row.kind, row.value)

-- ---- no two flags that a set lists have one index

module _ (rows : List Listed) (numbered : AreNumbered (map place rows)) where
  never_twice : (i j : ℕ) (d : Listed) → i < j → j < length rows → (get_or rows i d).index ≡ (get_or rows j d).index → ⊥
  never_twice i j d before within same =
      let len = length-map rows place in
      let first : i < length rows = omega (arith, before, within) in
      let at_i : get_or (map place rows) i 0 ≡ (get_or rows i d).index = get_or-map place rows i d 0 first in
      let at_j : get_or (map place rows) j 0 ≡ (get_or rows j d).index = get_or-map place rows j d 0 within in
      let k = get_or (map place rows) i 0 in
      let below : k < length (map place rows) = AreNumbered-below (map place rows) numbered i 0 (omega (arith, len, first)) in
      let twice = counted_twice (λ n. eqb n k) (map place rows) i j 0 before (omega (arith, len, within)) (tested k k refl) (tested (get_or (map place rows) j 0) k (at_j ∙ sym same ∙ sym at_i)) in
      omega (arith, twice, numbered k below)

  pub one_index : (a b : Listed) → Contains rows a → Contains rows b → a.index ≡ b.index → a ≡ b
  one_index a b at_a at_b same =
      let here : get_or rows at_b.0 a ≡ b = get_or_default rows at_b.0 a b at_b.1 ∙ at_b.2 in
      let equal : (get_or rows at_a.0 a).index ≡ (get_or rows at_b.0 a).index = ap place at_a.2 ∙ same ∙ sym (ap place here) in
      go (cases_eq at_a.0 at_b.0) here equal
    where
      go : (at_a.0 ≡ at_b.0) ⊎ (at_a.0 ≡ at_b.0 → ⊥) → get_or rows at_b.0 a ≡ b → (get_or rows at_a.0 a).index ≡ (get_or rows at_b.0 a).index → a ≡ b
      go (inl e) here equal = sym at_a.2 ∙ ap (λ (n : ℕ). get_or rows n a) e ∙ here
      go (inr apart) here equal = absurd (either at_a.0 at_b.0 apart (λ before. never_twice at_a.0 at_b.0 a before at_b.1 equal) (λ before. never_twice at_b.0 at_a.0 a before at_a.1 (sym equal)))
        where
          either : (i j : ℕ) → (i ≡ j → ⊥) → (i < j → ⊥) → (j < i → ⊥) → ⊥
          either i j apart less more = grind arith

-- ---- each flag that is listed has its row's byte

module _ (set : four.Files) (parts : SetParts) (rows : List FlagState) (indexes : List ℕ) (are : AreFlagsIn set parts rows indexes) where
  numbered : AreNumbered (map place (listing parts))
  numbered = subst AreNumbered (sym (map-map place (listed_flag parts) (flags_of parts))) are.is_set.agree.indexes

  entries_are : entries_of (release_in rows) ≡ map entry_in rows
  entries_are =
      ap entries_of (sym (map_of-map key_total key_of entry_in facts_of rows))
      ∙ entries_of-release_of (map entry_in rows) (AreInOrder-map key_total key_of entry_in rows are.order)

  told : map (λ (index : ℕ). Some index) indexes ≡ map (index_listed parts) (map entry_in rows)
  told = are.indexes_are ∙ ap (map (index_listed parts)) entries_are

  pub same_count : length indexes ≡ length rows
  same_count = sym (length-map indexes (λ (index : ℕ). Some index)) ∙ ap length told ∙ length-map (map entry_in rows) (index_listed parts) ∙ length-map rows entry_in

  index_at : (k : ℕ) (d : FlagState) → k < length rows → index_listed parts (get_or rows k d).entry ≡ Some (get_or indexes k 0)
  index_at k d within =
      let len = length-map rows entry_in in
      let none : Option ℕ = Some 0 in
      let left : get_or (map (λ (index : ℕ). Some index) indexes) k none ≡ Some (get_or indexes k 0) = get_or-map (λ (index : ℕ). Some index) indexes k 0 none (omega (arith, same_count, within)) in
      let right : get_or (map (index_listed parts) (map entry_in rows)) k none ≡ index_listed parts (get_or (map entry_in rows) k d.entry) = get_or-map (index_listed parts) (map entry_in rows) k d.entry none (omega (arith, len, within)) in
      let entry : get_or (map entry_in rows) k d.entry ≡ (get_or rows k d).entry = get_or-map entry_in rows k d d.entry within in
      sym (ap (index_listed parts) entry) ∙ sym right ∙ sym (ap (λ (list : List (Option ℕ)). get_or list k none) told) ∙ left

  -- the flag that is listed with a row's key, at its index
  pub listed_row : (k : ℕ) (d : FlagState) → k < length rows → (r : Listed) × Contains (listing parts) r × (listed_key r ≡ row_key (get_or rows k d)) × (r.index ≡ get_or indexes k 0)
  listed_row k d within = go (row_at key_cmp listed_key (listing parts) (row_key (get_or rows k d))) refl (index_at k d within)
    where
      go : (found : Option Listed) → row_at key_cmp listed_key (listing parts) (row_key (get_or rows k d)) ≡ found → index_listed parts (get_or rows k d).entry ≡ Some (get_or indexes k 0)
          → (r : Listed) × Contains (listing parts) r × (listed_key r ≡ row_key (get_or rows k d)) × (r.index ≡ get_or indexes k 0)
      go None is at = let none : option_map place None ≡ Some (get_or indexes k 0) = sym (ap (option_map place) is) ∙ at in absurd cc
      go (Some r) is at =
          let found = row_at-found key_total listed_key (listing parts) (row_key (get_or rows k d)) r is in
          let some : Some r.index ≡ Some (get_or indexes k 0) = sym (ap (option_map place) is) ∙ at in
          (r, found.0, key_exact (listed_key r) (row_key (get_or rows k d)) found.1, some_is r.index (get_or indexes k 0) some)

  -- a flag that is listed has a row with its key
  row_of : (r : Listed) → Contains (listing parts) r → (row : FlagState) × (row_at key_cmp row_key rows (listed_key r) ≡ Some row) × (facts_of row.entry ≡ facts r)
  row_of r in_list = go (row_at key_cmp row_key rows (listed_key r)) refl
    where
      own : row_at key_cmp listed_key (listing parts) (listed_key r) ≡ Some r
      own = All-contains (λ (row : Listed). row_at key_cmp listed_key (listing parts) (listed_key row) ≡ Some row) (listing parts) r (own_keys purpose.Release set parts are.is_set) in_list

      got : option_map (λ (row : FlagState). facts_of row.entry) (row_at key_cmp row_key rows (listed_key r)) ≡ Some (facts r)
      got =
          sym (get-map_of key_total row_key (λ (row : FlagState). facts_of row.entry) rows (listed_key r)) ∙ sym (ap (λ (m : ReleaseMap). get m (listed_key r)) are.release_is)
          ∙ get-map_of key_total listed_key facts (listing parts) (listed_key r) ∙ ap (option_map facts) own

      go : (found : Option FlagState) → row_at key_cmp row_key rows (listed_key r) ≡ found → (row : FlagState) × (row_at key_cmp row_key rows (listed_key r) ≡ Some row) × (facts_of row.entry ≡ facts r)
      go None is = let none : option_map (λ (row : FlagState). facts_of row.entry) None ≡ Some (facts r) = sym (ap (option_map (λ (row : FlagState). facts_of row.entry)) is) ∙ got in absurd cc
      go (Some row) is = (row, is, some_is (facts_of row.entry) (facts r) (sym (ap (option_map (λ (row : FlagState). facts_of row.entry)) is) ∙ got))

  module _ (byte_of : FlagState → ℕ) (bytes table : List ℕ) (bytes_are : bytes ≡ map byte_of rows) (puts : ArePut indexes bytes (length indexes) table) where
    -- what stands at its index is the byte of its row
    pub byte_put : (r : Listed) → Contains (listing parts) r → (row : FlagState) × (row_at key_cmp row_key rows (listed_key r) ≡ Some row) × (facts_of row.entry ≡ facts r) × (get_or table r.index 0 ≡ byte_of row)
    byte_put r in_list =
        let mine = row_of r in_list in
        let at = row_at-found key_total row_key rows (listed_key r) mine.0 mine.1 in
        let key : row_key mine.0 ≡ listed_key r = key_exact (row_key mine.0) (listed_key r) at.1 in
        let row = mine.0 in
        let k = at.0.0 in
        let first = listed_row k row at.0.1 in
        let first_is : first.0 ≡ r = same_flag first.0 r first.1 in_list (first.2 ∙ ap row_key at.0.2 ∙ key) in
        let there : get_or indexes k 0 ≡ r.index = sym first.3 ∙ ap place first_is in
        let put = puts k (omega (arith, same_count, at.0.1)) in
        let below : put.0 < length rows = omega (arith, same_count, put.1) in
        let second = listed_row put.0 row below in
        let second_is : second.0 ≡ r = one_index (listing parts) numbered second.0 r second.1 in_list (second.3 ∙ put.2 ∙ there) in
        let same_key : row_key (get_or rows put.0 row) ≡ listed_key r = sym second.2 ∙ ap listed_key second_is in
        let row_is : get_or rows put.0 row ≡ row = same_row (get_or rows put.0 row) row (put.0, below, get_or_default rows put.0 (get_or rows put.0 row) row below) at.0 (same_key ∙ sym key) in
        let byte : get_or bytes put.0 0 ≡ byte_of (get_or rows put.0 row) = ap (λ (b : List ℕ). get_or b put.0 0) bytes_are ∙ get_or-map byte_of rows put.0 row 0 below in
        (row, mine.1, mine.2, ap (λ (n : ℕ). get_or table n 0) (sym there) ∙ put.3 ∙ byte ∙ ap byte_of row_is)
      where
        same_flag : (a b : Listed) → Contains (listing parts) a → Contains (listing parts) b → listed_key a ≡ listed_key b → a ≡ b
        same_flag a b in_a in_b same =
            let own = own_keys purpose.Release set parts are.is_set in
            let mine = λ (x : Listed) (at : Contains (listing parts) x). All-contains (λ (row : Listed). row_at key_cmp listed_key (listing parts) (listed_key row) ≡ Some row) (listing parts) x own at in
            some_is a b (sym (mine a in_a) ∙ ap (row_at key_cmp listed_key (listing parts)) same ∙ mine b in_b)

        same_row : (a b : FlagState) → Contains rows a → Contains rows b → row_key a ≡ row_key b → a ≡ b
        same_row a b in_a in_b same =
            some_is a b (sym (row_at-member key_total row_key rows are.order (row_key a) a in_a (tied_itself key_total (row_key a))) ∙ ap (row_at key_cmp row_key rows) same
            ∙ row_at-member key_total row_key rows are.order (row_key b) b in_b (tied_itself key_total (row_key b)))
