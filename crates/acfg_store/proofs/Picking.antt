-- The bytes of a boot copy, put at the indexes of a release's flags, make the set of the boot copy.
use Rattle.std.proofs.Common.{◌≡◌, ℕ, ◌+◌, ◌*◌, ◌<◌, ◌≤◌, ◌||◌, Bool, true, false, eqb, List, [], map, length, get_or, Option, Some, None, option_map, is_some, unwrap_or, inl, inr, refl, sym, ap, ◌∙◌, subst, arith}
use Rattle.std.specs.Prelude.{All, Contains, IsTrue, option_and_then}
use Rattle.std.specs.FinMap.{contains_key, get, same_map}
use Rattle.std.specs.Cmp.{tied_itself}
use Rattle.std.specs.Option.{option_map_or}
use Rattle.std.proofs.lemmas.List.Folds.{Any-from_list_any}
use Rattle.std.proofs.lemmas.List.{get_or-map, get_or_default, length-map}
use Rattle.std.proofs.lemmas.List.Elements.{All-contains}
use Rattle.std.proofs.lemmas.Bool.{eqb-true}
use Rattle.std.proofs.lemmas.Simd.{map-map}
use Rattle.acfg_base.specs.declared.releases.Kind.{Kind}
use Rattle.acfg_base.specs.declared.releases.Kind.TheVariants.{ReadWrite}
use Rattle.acfg_base.specs.Places.{AreInOrder, StandsAt, map_of, row_at}
use Rattle.acfg_base.specs.Release.{Key, ReleaseMap, entries_of, facts_of, key_cmp, is_read_write}
use Rattle.acfg_base.proofs.Keys.{key_exact, key_total}
use Rattle.acfg_base.proofs.Maps.{get-map_values}
use Rattle.acfg_base.proofs.Rows.{get-map_of, get-map_where, row_at-found, row_at-map}
use Rattle.acfg_images.specs.declared.purpose.Use.TheVariants as purpose
use Rattle.acfg_images.specs.Files as four
use Rattle.acfg_images.specs.Restamp.{CanRestamp, restamped}
use Rattle.acfg_images.specs.Set.{IsInfo, IsSet, IsSetOf, Listed, SetParts, flags_of, has_local, has_read_write, has_server, index_of, listed_flag, listed_key, listing, notes_in, packages_of}
use Rattle.acfg_images.specs.Set as images
use Rattle.acfg_images.specs.Words.{AreNumbered}
use Rattle.acfg_images.proofs.Pigeon.{counted_some}
use Rattle.acfg_model.specs.declared.containers.FlagState.{FlagState}
use Rattle.acfg_model.specs.FlagStates.{local_in, release_in, row_key, server_in}
use Rattle.acfg_model.specs.State as model
use Rattle.acfg_model.specs.State.{BootedFlag, BootMap, Container, pick}
use Rattle.acfg_model.specs.Step.{boot_map, booted_flag_of}
use Rattle.acfg_model.proofs.Rowed.{local_at, release_at, server_at}
use Rattle.acfg_store.specs.Kept.{index_listed}
use Rattle.acfg_store.specs.Picked.{AreOnWritable, HasRows, IsCopyFor, noted_byte, pick_byte}
use Rattle.acfg_store.specs.Records.{bit}
use Rattle.acfg_store.specs.Stamped.{AreFlagsIn, ArePut}
use Rattle.acfg_store.proofs.OneSet.{one_parts}
use Rattle.acfg_store.proofs.Written.{byte_put, facts}
use Rattle.acfg_views.specs.Layout.{Flag}

-- ---- a byte of bits

abbrev bits : Bool → Bool → Bool → ℕ
bits writable server local = 2 * bit writable + (bit server + 4 * bit local)

pub reads_writable : (a b c : Bool) → has_read_write (bits a b c) ≡ a
reads_writable true true true = refl
reads_writable true true false = refl
reads_writable true false true = refl
reads_writable true false false = refl
reads_writable false true true = refl
reads_writable false true false = refl
reads_writable false false true = refl
reads_writable false false false = refl

pub reads_server : (a b c : Bool) → has_server (bits a b c) ≡ b
reads_server true true true = refl
reads_server true true false = refl
reads_server true false true = refl
reads_server true false false = refl
reads_server false true true = refl
reads_server false true false = refl
reads_server false false true = refl
reads_server false false false = refl

pub reads_local : (a b c : Bool) → has_local (bits a b c) ≡ c
reads_local true true true = refl
reads_local true true false = refl
reads_local true false true = refl
reads_local true false false = refl
reads_local false true true = refl
reads_local false true false = refl
reads_local false false true = refl
reads_local false false false = refl

pub lawful_bits : (a b c : Bool) → (IsTrue (b || c) → IsTrue a) → IsInfo purpose.Copy (bits a b c)
lawful_bits true true true may = inr (inr (inr (inr refl)))
lawful_bits true true false may = inr (inr (inl refl))
lawful_bits true false true may = inr (inr (inr (inl refl)))
lawful_bits true false false may = inr (inl refl)
lawful_bits false true c may = absurd (false_is_true (may refl))
  where
    false_is_true : false ≡ true → ⊥
    false_is_true e = cc
lawful_bits false false true may = absurd (false_is_true (may refl))
  where
    false_is_true : false ≡ true → ⊥
    false_is_true e = cc
lawful_bits false false false may = inl refl

pub one_at_most : (b : Bool) → bit b ≤ 1
one_at_most true = omega arith
one_at_most false = omega arith

pub reads_value : (b : Bool) → eqb (bit b) 1 ≡ b
reads_value true = refl
reads_value false = refl

abbrev place : Listed → ℕ
place row = row.index

module _ (set : four.Files) (parts : SetParts) (rows : List FlagState) (indexes : List ℕ) (are : AreFlagsIn set parts rows indexes) where
  numbered : AreNumbered (map place (listing parts))
  numbered = subst AreNumbered (sym (map-map place (listed_flag parts) (flags_of parts))) are.is_set.agree.indexes

  count_of : length (listing parts) ≡ length (flags_of parts)
  count_of = length-map (flags_of parts) (listed_flag parts)

  -- each number is the index of a flag that is listed
  listed_at : (n : ℕ) → n < length (listing parts) → (r : Listed) × Contains (listing parts) r × (r.index ≡ n)
  listed_at n within =
      let one = numbered n (omega (arith, within, length-map (listing parts) place)) in
      let found = Any-from_list_any (λ (r : Listed). eqb r.index n) (listing parts) (counted_some place n (listing parts) (omega (arith, one))) in
      (found.1, (found.0, found.2, found.3), eqb-true found.1.index n found.4)

  -- what a listed flag's bits are, and whether they tell that it is read-write
  read_write_listed : All (λ (r : Listed). (has_read_write r.bits ≡ is_read_write r.kind) × (r.bits ≡ get_or parts.infos.bytes r.index 0)) (listing parts)
  read_write_listed k d within =
      let below : k < length (flags_of parts) = omega (arith, within, count_of) in
      let flag : Flag = get_or (flags_of parts) k no_flag in
      let is : get_or (listing parts) k d ≡ listed_flag parts flag = get_or-map (listed_flag parts) (flags_of parts) k no_flag d below in
      subst (λ (r : Listed). (has_read_write r.bits ≡ is_read_write r.kind) × (r.bits ≡ get_or parts.infos.bytes r.index 0)) (sym is) (are.is_set.agree.kinds k no_flag below, refl)
    where
      no_flag : Flag
      no_flag = record { package_id = 0; name = []; kind = ReadWrite; index = 0; next = 0 }

  -- the byte at each number is that of a row, whose flag is listed there
  module _ (byte_of : FlagState → ℕ) (bytes table : List ℕ) (bytes_are : bytes ≡ map byte_of rows) (puts : ArePut indexes bytes (length indexes) table) where
    byte_there : (n : ℕ) → n < length (listing parts) → (r : Listed) × (row : FlagState) × Contains (listing parts) r × (r.index ≡ n) × Contains rows row × (facts_of row.entry ≡ facts r) × (get_or table n 0 ≡ byte_of row)
    byte_there n within =
        let at = listed_at n within in
        let put = byte_put set parts rows indexes are byte_of bytes table bytes_are puts at.0 at.1 in
        (at.0, put.0, at.1, at.2, (row_at-found key_total row_key rows (listed_key at.0) put.0 put.1).0, put.2, ap (λ (k : ℕ). get_or table k 0) (sym at.2) ∙ put.3)

    all_bytes : (P : ℕ → Type 0) → ((row : FlagState) → Contains rows row → P (byte_of row)) → length table ≡ length (listing parts) → All P table
    all_bytes P each size k d within =
        let there = byte_there k (omega (arith, within, size)) in
        subst P (sym (get_or_default table k d 0 within ∙ there.6)) (each there.1 there.4)

  module _ (picks values notes infos : List ℕ) (picks_are : picks ≡ map pick_byte rows) (notes_are : notes ≡ map noted_byte rows) (puts_values : ArePut indexes picks (length indexes) values) (puts_infos : ArePut indexes notes (length indexes) infos)
      (value_size : length values ≡ length (listing parts)) (info_size : length infos ≡ length (listing parts)) where
    pub can_copy : AreOnWritable rows → CanRestamp parts values infos
    can_copy writable = record {
      value_count = omega (arith, value_size, count_of, are.is_set.agree.value_count);
      info_count = omega (arith, info_size, count_of, are.is_set.agree.info_count);
      value_bytes = all_bytes pick_byte picks values picks_are puts_values (λ byte. byte ≤ 1) (λ row in_rows. one_at_most (unwrap_or row.local (unwrap_or row.server row.entry.value))) value_size;
      info_bytes = all_bytes noted_byte notes infos notes_are puts_infos (IsInfo purpose.Copy)
          (λ row in_rows. lawful_bits (is_read_write row.entry.kind) (is_some row.server) (is_some row.local)
          (All-contains (λ (r : FlagState). IsTrue (is_some r.server || is_some r.local) → IsTrue (is_read_write r.entry.kind)) rows row writable in_rows)) info_size;
      kinds = λ n within.
          let there = byte_there noted_byte notes infos notes_are puts_infos n (omega (arith, within, info_size)) in
          let row = there.1 in
          let r = there.0 in
          let read = All-contains (λ (r : Listed). (has_read_write r.bits ≡ is_read_write r.kind) × (r.bits ≡ get_or parts.infos.bytes r.index 0)) (listing parts) r read_write_listed there.2 in
          ap has_read_write there.6 ∙ reads_writable (is_read_write row.entry.kind) (is_some row.server) (is_some row.local)
          ∙ ap (λ (f : Kind × Bool). is_read_write f.0) there.5 ∙ sym read.0 ∙ ap has_read_write (read.1 ∙ ap (λ (k : ℕ). get_or parts.infos.bytes k 0) there.3);
    }

    abbrev made : SetParts
    made = restamped parts values infos

    -- a listed flag with its bytes in the copy
    abbrev again : Listed → Listed
    again r = record r { value = eqb (get_or values r.index 0) 1; bits = get_or infos r.index 0 }

    abbrev flag_in : Listed → BootedFlag
    flag_in r = record { kind = r.kind; value = r.value; server = has_server r.bits; local = has_local r.bits }

    listing_again : listing made ≡ map again (listing parts)
    listing_again = sym (map-map again (listed_flag parts) (flags_of parts))

    module _ (container : Container) (has : HasRows container rows) where
      same_flag : (q : Key) (r : Listed) → row_at key_cmp listed_key (listing parts) q ≡ Some r → flag_in (again r) ≡ booted_flag_of container q (facts r)
      same_flag q r at =
          let found = row_at-found key_total listed_key (listing parts) q r at in
          let key : listed_key r ≡ q = key_exact (listed_key r) q found.1 in
          let value = byte_put set parts rows indexes are pick_byte picks values picks_are puts_values r found.0 in
          let info = byte_put set parts rows indexes are noted_byte notes infos notes_are puts_infos r found.0 in
          let row = value.0 in
          let one : info.0 ≡ row = some_is info.0 row (sym info.1 ∙ value.1) in
          let server : get container.server q ≡ row.server =
          ap (λ (m : _). get m q) has.server ∙ ap (get (server_in rows)) (sym key) ∙ get-map_where key_total row_key (λ (r : FlagState). r.server) rows are.order (listed_key r) ∙ ap (option_and_then (λ (r : FlagState). r.server)) value.1 in
          let local : get container.local q ≡ row.local =
          ap (λ (m : _). get m q) has.local ∙ ap (get (local_in rows)) (sym key) ∙ get-map_where key_total row_key (λ (r : FlagState). r.local) rows are.order (listed_key r) ∙ ap (option_and_then (λ (r : FlagState). r.local)) value.1 in
          let byte : get_or infos r.index 0 ≡ noted_byte row = info.3 ∙ ap noted_byte one in
          let picked : eqb (get_or values r.index 0) 1 ≡ pick container q r.value =
          ap (λ (n : ℕ). eqb n 1) value.3 ∙ reads_value (unwrap_or row.local (unwrap_or row.server row.entry.value))
          ∙ (λ i. unwrap_or (sym local i) (unwrap_or (sym server i) (value.2 i).1)) in
          let has_s : has_server (get_or infos r.index 0) ≡ contains_key container.server q =
          ap has_server byte ∙ reads_server (is_read_write row.entry.kind) (is_some row.server) (is_some row.local) ∙ (λ i. is_some (sym server i)) in
          let has_l : has_local (get_or infos r.index 0) ≡ contains_key container.local q =
          ap has_local byte ∙ reads_local (is_read_write row.entry.kind) (is_some row.server) (is_some row.local) ∙ (λ i. is_some (sym local i)) in
          λ i. record { kind = r.kind; value = picked i; server = has_s i; local = has_l i }
        where
          some_is : (x y : FlagState) → Some x ≡ Some y → x ≡ y
          some_is x y e = cc

      -- the boot copy that the set lists
      whole : map_of key_cmp listed_key (listing made) flag_in ≡ boot_map container
      whole = same_map key_total key_exact _ _ (λ q.
          get-map_of key_total listed_key flag_in (listing made) q
          ∙ ap (λ (list : List Listed). option_map flag_in (row_at key_cmp listed_key list q)) listing_again
          ∙ ap (option_map flag_in) (row_at-map key_total listed_key again (listing parts) q)
          ∙ by_row q (row_at key_cmp listed_key (listing parts) q) refl
          ∙ ap (option_map (booted_flag_of container q)) (sym (released q))
          ∙ sym (get-map_values key_total key_exact (booted_flag_of container) container.release q))
        where
          by_row : (q : Key) (r : Option Listed) → row_at key_cmp listed_key (listing parts) q ≡ r → option_map flag_in (option_map again r) ≡ option_map (booted_flag_of container q) (option_map facts r)
          by_row q None at = refl
          by_row q (Some r) at = ap Some (same_flag q r at)

          released : (q : Key) → get container.release q ≡ option_map facts (row_at key_cmp listed_key (listing parts) q)
          released q = ap (λ (m : ReleaseMap). get m q) (has.release ∙ sym are.release_is) ∙ get-map_of key_total listed_key facts (listing parts) q

      seen : {X : Type 0} (of : BootedFlag → X) (q : Key) → option_map (λ (r : Listed). of (flag_in r)) (row_at key_cmp listed_key (listing made) q) ≡ option_map of (get (boot_map container) q)
      seen {X} of q =
          twice (row_at key_cmp listed_key (listing made) q)
          ∙ ap (option_map of) (sym (get-map_of key_total listed_key flag_in (listing made) q) ∙ ap (λ (m : BootMap). get m q) whole)
        where
          twice : (r : Option Listed) → option_map (λ (r : Listed). of (flag_in r)) r ≡ option_map of (option_map flag_in r)
          twice None = refl
          twice (Some r) = refl

      pub copy_is : (files : four.Files) → IsSetOf files purpose.Copy (restamped parts values infos) → IsCopyFor files parts.package_map.container container
      copy_is files is = record {
        parts = made;
        files_are = is;
        container_is = refl;
        release_is = same_map key_total key_exact _ _ (λ q.
            get-map_of key_total listed_key (λ (r : Listed). (r.kind, r.value)) (listing made) q ∙ seen (λ (f : BootedFlag). (f.kind, f.value)) q
            ∙ sym (get-map_values key_total key_exact (λ (key : Key) (f : BootedFlag). (f.kind, f.value)) (boot_map container) q));
        notes_are = same_map key_total key_exact _ _ (λ q.
            get-map_of key_total listed_key (λ (r : Listed). (has_server r.bits, has_local r.bits)) (listing made) q ∙ seen (λ (f : BootedFlag). (f.server, f.local)) q
            ∙ sym (get-map_values key_total key_exact (λ (key : Key) (f : BootedFlag). (f.server, f.local)) (boot_map container) q));
      }

-- ---- a container's rows

-- overrides stand on read-write flags, where the container is valid
pub writable_rows : (container : Container) → model.IsValidContainer container → (rows : List FlagState) → AreInOrder key_cmp row_key rows → HasRows container rows → AreOnWritable rows
writable_rows container valid rows order has k d within noted =
    let row : FlagState = get_or rows k d in
    let stands : StandsAt key_cmp row_key rows (row_key row) k = record {
      within = within;
      same = λ e. ap (λ (r : FlagState). key_cmp (row_key r) (row_key row)) (get_or_default rows k e d within) ∙ tied_itself key_total (row_key row);
    } in
    let is : row ≡ get_or rows k row = get_or_default rows k d row within in
    let released : get container.release (row_key row) ≡ Some (facts_of row.entry) = ap (λ (m : ReleaseMap). get m (row_key row)) has.release ∙ release_at rows order (row_key row) k stands row is in
    let server : get container.server (row_key row) ≡ row.server = ap (λ (m : model.OverrideMap). get m (row_key row)) has.server ∙ server_at rows order (row_key row) k stands row is in
    let local : get container.local (row_key row) ≡ row.local = ap (λ (m : model.OverrideMap). get m (row_key row)) has.local ∙ local_at rows order (row_key row) k stands row is in
    by_override row released (valid.server (row_key row)) (valid.local (row_key row)) row.server row.local server local noted
  where
    by_override : (row : FlagState) → get container.release (row_key row) ≡ Some (facts_of row.entry)
        → ((value : Bool) → get container.server (row_key row) ≡ Some value → IsTrue (model.is_writable container.release (row_key row)))
        → ((value : Bool) → get container.local (row_key row) ≡ Some value → IsTrue (model.is_writable container.release (row_key row)))
        → (server local : Option Bool) → get container.server (row_key row) ≡ server → get container.local (row_key row) ≡ local → IsTrue (is_some server || is_some local) → IsTrue (is_read_write row.entry.kind)
    by_override row released by_server by_local (Some value) local s l noted =
        ap (λ f. option_map_or (λ f. is_read_write f.0) f false) (sym released) ∙ by_server value s
    by_override row released by_server by_local None (Some value) s l noted =
        ap (λ f. option_map_or (λ f. is_read_write f.0) f false) (sym released) ∙ by_local value l
    by_override row released by_server by_local None None s l noted = cc

-- the flags of a release whose set was found in one way are those that it lists in each
pub flags_again : (set : four.Files) (first parts : SetParts) → IsSetOf set purpose.Release first → IsSetOf set purpose.Release parts → (release : ReleaseMap) (rows : List FlagState) → AreInOrder key_cmp row_key rows
    → release ≡ release_in rows → (indexes : List ℕ) → map (λ (index : ℕ). Some index) indexes ≡ map (index_listed first) (entries_of release) → images.release_in first ≡ release → AreFlagsIn set parts rows indexes
flags_again set first parts first_is is release rows order rows_are indexes listed release_is =
    let same = one_parts set purpose.Release purpose.Release first parts first_is is in
    record {
      is_set = is;
      order = order;
      release_is = ap images.release_in (sym same) ∙ release_is ∙ rows_are;
      indexes_are = listed ∙ (λ i. map (index_listed (same i)) (entries_of (rows_are i)));
    }
