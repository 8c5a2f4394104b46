-- A boot copy with other bytes at the index of one flag is the set of the boot copy in which that flag is renewed.
use Rattle.std.proofs.Common.{◌≡◌, ◌⊎◌, ℕ, ◌-◌, ◌<◌, ◌≤◌, Bool, true, false, cond, true≢false, eqb, List, [], ◌++◌, map, length, get_or, set, drop, Option, Some, None, option_map, is_some, unwrap_or, inl, inr, refl, sym, ap, ◌∙◌, subst, arith}
use Rattle.std.specs.Prelude.{All, Contains, IsSome, Ok}
use Rattle.std.specs.FinMap.{get, get-insert, insert, same_map}
use Rattle.std.specs.Ordering.{eq_by_cmp}
use Rattle.std.proofs.lemmas.Bool.{cases_eq}
use Rattle.std.proofs.lemmas.List.{drop_at, get_or-map, get_or-set_other, get_or-set_same, length-append, length-map, length-set}
use Rattle.std.proofs.lemmas.List.Elements.{All-contains, All-set}
use Rattle.std.proofs.lemmas.Simd.{map-map}
use Rattle.acfg_base.specs.declared.releases.Kind.{Kind}
use Rattle.acfg_base.specs.declared.releases.Kind.TheVariants.{ReadWrite}
use Rattle.acfg_base.specs.Places.{AreInOrder, StandsAt, WouldStandAt, map_of, row_at}
use Rattle.acfg_base.specs.Maps.{map_values}
use Rattle.acfg_base.specs.Release.{Key, ReleaseMap, facts_of, key_cmp, is_read_write}
use Rattle.acfg_base.proofs.Keys.{key_exact, key_total}
use Rattle.acfg_base.proofs.Maps.{get-map_values}
use Rattle.acfg_base.proofs.Rows.{Equal_of, get-map_of, row_at-found, row_at-gap, row_at-map}
use Rattle.acfg_images.specs.declared.purpose.Use.TheVariants as purpose
use Rattle.acfg_images.specs.Faults.{Opened, checked, parts_in}
use Rattle.acfg_images.specs.Files as four
use Rattle.acfg_images.specs.Restamp.{CanRestamp, restamped}
use Rattle.acfg_images.specs.Set.{IsInfo, IsSetOf, Listed, Notes, SetParts, flags_of, has_local, has_read_write, has_server, listed, listed_flag, listed_key, listing, release_in, notes_in}
use Rattle.acfg_images.specs.Words.{AreNumbered}
use Rattle.acfg_images.proofs.Law.{checked_same, same_as_set}
use Rattle.acfg_model.specs.declared.containers.FlagState.{FlagState}
use Rattle.acfg_model.specs.FlagStates.{boot_renewed, picked_flag, release_in as released, row_key}
use Rattle.acfg_model.specs.State.{BootedFlag, BootMap, Container}
use Rattle.acfg_model.specs.Step.{IsRenewable, entry_refusal, renewed_flag, with_flag}
use Rattle.acfg_model.proofs.Renewals.{renewed_by_row}
use Rattle.acfg_store.specs.Picked.{HasRows, pick_byte}
use Rattle.acfg_store.specs.Renewing.{IsCopyWith, IsIndexIn, TakesFlag, renewed_boot, renewed_byte}
use Rattle.acfg_store.specs.Stands.{boot_notes, boot_release}
use Rattle.acfg_store.proofs.OwnKeys.{itself}
use Rattle.acfg_store.proofs.Picking.{lawful_bits, one_at_most, reads_local, reads_server, reads_value, reads_writable}
use Rattle.acfg_store.proofs.Placing.{flag_count, indexes_below, listed_is}
use Rattle.acfg_store.proofs.Written.{one_index}
use Rattle.acfg_views.specs.Layout.{Flag, IsListFile, ListParts, flag_info_type, flag_val_type, list_file, list_header, list_header_size, list_size}

some_is : {A : Type 0} (x y : A) → Some x ≡ Some y → x ≡ y
some_is x y e = cc

abbrev place : Listed → ℕ
place row = row.index

-- a listed flag as a boot copy has it
abbrev flag_in : Listed → BootedFlag
flag_in r = record { kind = r.kind; value = r.value; server = has_server r.bits; local = has_local r.bits }

abbrev pub facts : BootedFlag → Kind × Bool
facts flag = (flag.kind, flag.value)

abbrev noted : BootedFlag → Bool × Bool
noted flag = (flag.server, flag.local)

-- what a listed flag has of the bytes at its index
record IsRead (parts : SetParts) (r : Listed) : Type 0 where
  value : r.value ≡ eqb (get_or parts.values.bytes r.index 0) 1
  bits : r.bits ≡ get_or parts.infos.bytes r.index 0
  kind : has_read_write r.bits ≡ is_read_write r.kind

-- ---- the last bytes of a file

module _ (file_type : ℕ) (file : List ℕ) (parts : ListParts) (is : IsListFile file_type file parts) where
  header : List ℕ
  header = list_header parts.version parts.container file_type (list_size parts) (length parts.bytes) (list_header_size parts.container)

  file_is : file ≡ header ++ parts.bytes
  unfolding list_file header
  file_is = is.spelled

  pub bytes_fit : length parts.bytes ≤ length file
  bytes_fit = omega (arith, ap length file_is, length-append header parts.bytes)

  pub last_bytes : drop (length file - length parts.bytes) file ≡ parts.bytes
  last_bytes =
      ap (drop (length file - length parts.bytes)) file_is
      ∙ drop_at header parts.bytes (length file - length parts.bytes) (omega (arith, ap length file_is, length-append header parts.bytes))

-- ---- which flag is renewed

takes_kind : (flag : BootedFlag) → entry_refusal (Some flag) ≡ None → is_read_write flag.kind ≡ true
takes_kind flag goes = by_test (is_read_write flag.kind) refl goes
  where
    by_test : (b : Bool) → is_read_write flag.kind ≡ b → entry_refusal (Some flag) ≡ None → is_read_write flag.kind ≡ true
    by_test true is goes = is
    by_test false is goes = absurd cc

module _ (files : four.Files) (parts : SetParts) (is_set : IsSetOf files purpose.Copy parts) where
  numbered : AreNumbered (map place (listing parts))
  numbered = subst AreNumbered (sym (map-map place (listed_flag parts) (flags_of parts))) is_set.agree.indexes

  count_of : length (listing parts) ≡ length (flags_of parts)
  count_of = length-map (flags_of parts) (listed_flag parts)

  all_read : All (IsRead parts) (listing parts)
  all_read k d within =
      let below : k < length (flags_of parts) = omega (arith, within, count_of) in
      let flag : Flag = get_or (flags_of parts) k no_flag in
      let is : get_or (listing parts) k d ≡ listed_flag parts flag = get_or-map (listed_flag parts) (flags_of parts) k no_flag d below in
      subst (IsRead parts) (sym is) (record { value = refl; bits = refl; kind = is_set.agree.kinds k no_flag below })
    where
      no_flag : Flag
      no_flag = record { package_id = 0; name = []; kind = ReadWrite; index = 0; next = 0 }

  module _ (key : Key) (r : Listed) (at : row_at key_cmp listed_key (listing parts) key ≡ Some r) where
    among : Contains (listing parts) r
    among = (row_at-found key_total listed_key (listing parts) key r at).0

    key_is : listed_key r ≡ key
    key_is = key_exact (listed_key r) key (row_at-found key_total listed_key (listing parts) key r at).1

    below : r.index < length (listing parts)
    below = All-contains (λ (row : Listed). row.index < length (listing parts)) (listing parts) r (indexes_below purpose.Copy files parts is_set) among

    module _ (writable : is_read_write r.kind ≡ true) (row : FlagState) where
      abbrev values : List ℕ
      values = set parts.values.bytes r.index (pick_byte row)

      abbrev infos : List ℕ
      infos = set parts.infos.bytes r.index (renewed_byte row)

      value_here : get_or values r.index 0 ≡ pick_byte row
      value_here = get_or-set_same parts.values.bytes r.index (pick_byte row) 0 (omega (arith, below, count_of, is_set.agree.value_count))

      info_here : get_or infos r.index 0 ≡ renewed_byte row
      info_here = get_or-set_same parts.infos.bytes r.index (renewed_byte row) 0 (omega (arith, below, count_of, is_set.agree.info_count))

      pub can_renew : CanRestamp parts values infos
      can_renew = record {
        value_count = length-set parts.values.bytes r.index (pick_byte row);
        info_count = length-set parts.infos.bytes r.index (renewed_byte row);
        value_bytes = All-set (λ byte. byte ≤ 1) parts.values.bytes r.index (pick_byte row) (one_at_most (unwrap_or row.local (unwrap_or row.server row.entry.value))) is_set.value_bytes;
        info_bytes = All-set (IsInfo purpose.Copy) parts.infos.bytes r.index (renewed_byte row) (lawful_bits true (is_some row.server) (is_some row.local) (λ _. refl)) is_set.info_bytes;
        kinds = λ k within. by_place k (cases_eq k r.index);
      }
        where
          by_place : (k : ℕ) → (k ≡ r.index) ⊎ (k ≡ r.index → ⊥) → has_read_write (get_or infos k 0) ≡ has_read_write (get_or parts.infos.bytes k 0)
          by_place k (inl same) =
              let read = All-contains (IsRead parts) (listing parts) r all_read among in
              ap (λ (n : ℕ). has_read_write (get_or infos n 0)) same ∙ ap has_read_write info_here ∙ reads_writable true (is_some row.server) (is_some row.local)
              ∙ sym writable ∙ sym read.kind ∙ ap has_read_write read.bits ∙ ap (λ (n : ℕ). has_read_write (get_or parts.infos.bytes n 0)) (sym same)
          by_place k (inr apart) = ap has_read_write (get_or-set_other parts.infos.bytes r.index k (renewed_byte row) 0 apart)

      abbrev made : SetParts
      made = restamped parts values infos

      -- a listed flag with its bytes in the new copy
      abbrev again : Listed → Listed
      again x = record x { value = eqb (get_or values x.index 0) 1; bits = get_or infos x.index 0 }

      listing_again : listing made ≡ map again (listing parts)
      listing_again = sym (map-map again (listed_flag parts) (flags_of parts))

      again_here : (was : BootedFlag) → r.kind ≡ was.kind → flag_in (again r) ≡ picked_flag row was
      again_here was kind = λ i. record { kind = kind i; value = value i; server = server i; local = local i }
        where
          value : eqb (get_or values r.index 0) 1 ≡ unwrap_or row.local (unwrap_or row.server row.entry.value)
          value = ap (λ (n : ℕ). eqb n 1) value_here ∙ reads_value (unwrap_or row.local (unwrap_or row.server row.entry.value))

          server : has_server (get_or infos r.index 0) ≡ is_some row.server
          server = ap has_server info_here ∙ reads_server true (is_some row.server) (is_some row.local)

          local : has_local (get_or infos r.index 0) ≡ is_some row.local
          local = ap has_local info_here ∙ reads_local true (is_some row.server) (is_some row.local)

      again_other : (x : Listed) → Contains (listing parts) x → (x.index ≡ r.index → ⊥) → again x ≡ x
      again_other x x-in apart =
          let read = All-contains (IsRead parts) (listing parts) x all_read x-in in
          let value : eqb (get_or values x.index 0) 1 ≡ x.value = ap (λ (n : ℕ). eqb n 1) (get_or-set_other parts.values.bytes r.index x.index (pick_byte row) 0 apart) ∙ sym read.value in
          let bits : get_or infos x.index 0 ≡ x.bits = get_or-set_other parts.infos.bytes r.index x.index (renewed_byte row) 0 apart ∙ sym read.bits in
          λ i. record x { value = value i; bits = bits i }

      module _ (boot : BootMap) (was : BootedFlag) (was_is : get boot key ≡ Some was) (kind : r.kind ≡ was.kind) where
        renewed_is : boot_renewed row key boot ≡ insert boot key (picked_flag row was)
        renewed_is = ap (λ (entry : Option BootedFlag). with_flag boot key (option_map (picked_flag row) entry)) was_is

        module _ {X : Type 0} (of : BootedFlag → X) (old : (q : Key) → option_map (λ (x : Listed). of (flag_in x)) (row_at key_cmp listed_key (listing parts) q) ≡ option_map of (get boot q)) where
          abbrev read : Listed → X
          read x = of (flag_in x)

          other : (q : Key) (found : Option Listed) → row_at key_cmp listed_key (listing parts) q ≡ found → eq_by_cmp key_cmp q key ≡ false → option_map read (option_map again found) ≡ option_map read found
          other q None is apart = refl
          other q (Some x) is apart =
              let x-found = row_at-found key_total listed_key (listing parts) q x is in
              let x-key : listed_key x ≡ q = key_exact (listed_key x) q x-found.1 in
              ap (λ (y : Listed). Some (read y)) (again_other x x-found.0 (λ same.
              let one : x ≡ r = one_index (listing parts) numbered x r x-found.0 among same in
              true≢false (sym (itself q key (sym x-key ∙ ap listed_key one ∙ key_is)) ∙ apart)))

          at_key : (q : Key) → option_map read (option_map again (row_at key_cmp listed_key (listing parts) q)) ≡ option_map of (cond (eq_by_cmp key_cmp q key) (Some (picked_flag row was)) (get boot q))
          at_key q =
              elim (eq_by_cmp key_cmp q key) as (λ b. eq_by_cmp key_cmp q key ≡ b
              → option_map read (option_map again (row_at key_cmp listed_key (listing parts) q)) ≡ option_map of (cond b (Some (picked_flag row was)) (get boot q))) [
                | true ↦ λ hit.
                    let same : q ≡ key = key_exact q key (Equal_of _ hit) in
                    ap (λ (k : Key). option_map read (option_map again (row_at key_cmp listed_key (listing parts) k))) same ∙ ap (λ (found : Option Listed). option_map read (option_map again found)) at
                    ∙ ap (λ (flag : BootedFlag). Some (of flag)) (again_here was kind)
                | false ↦ λ miss. other q (row_at key_cmp listed_key (listing parts) q) refl miss ∙ old q
              ] refl

          whole : map_of key_cmp listed_key (listing made) read ≡ map_values (λ (k : Key) (flag : BootedFlag). of flag) (boot_renewed row key boot)
          whole = same_map key_total key_exact _ _ (λ q.
              get-map_of key_total listed_key read (listing made) q
              ∙ ap (λ (list : List Listed). option_map read (row_at key_cmp listed_key list q)) listing_again
              ∙ ap (option_map read) (row_at-map key_total listed_key again (listing parts) q)
              ∙ at_key q
              ∙ ap (option_map of) (sym (get-insert key_total boot key (picked_flag row was) q) ∙ ap (λ (m : BootMap). get m q) (sym renewed_is))
              ∙ sym (get-map_values key_total key_exact (λ (k : Key) (flag : BootedFlag). of flag) (boot_renewed row key boot) q))

        pub renewed_set : (release_in parts ≡ boot_release boot) → (notes_in parts ≡ boot_notes boot) → (new : four.Files) → IsSetOf new purpose.Copy made → IsCopyWith new parts.package_map.container (boot_renewed row key boot)
        renewed_set release_is notes_are new is = record {
          parts = made;
          files_are = is;
          container_is = refl;
          release_is = whole facts (λ q.
              sym (get-map_of key_total listed_key (λ (x : Listed). (x.kind, x.value)) (listing parts) q) ∙ ap (λ (m : ReleaseMap). get m q) release_is
              ∙ get-map_values key_total key_exact (λ (k : Key) (flag : BootedFlag). facts flag) boot q);
          notes_are = whole noted (λ q.
              sym (get-map_of key_total listed_key (λ (x : Listed). (has_server x.bits, has_local x.bits)) (listing parts) q) ∙ ap (λ (m : Notes). get m q) notes_are
              ∙ get-map_values key_total key_exact (λ (k : Key) (flag : BootedFlag). noted flag) boot q);
        }

-- a set of a boot copy lists of a flag what the boot copy has of it
pub facts_read : (parts : SetParts) (boot : BootMap) (key : Key) → release_in parts ≡ boot_release boot
    → option_map (λ (x : Listed). (x.kind, x.value)) (row_at key_cmp listed_key (listing parts) key) ≡ option_map facts (get boot key)
facts_read parts boot key release_is =
    sym (get-map_of key_total listed_key (λ (x : Listed). (x.kind, x.value)) (listing parts) key) ∙ ap (λ (m : ReleaseMap). get m key) release_is
    ∙ get-map_values key_total key_exact (λ (k : Key) (flag : BootedFlag). facts flag) boot key

-- ---- a flag that a boot copy takes another value of

-- such a flag as the set lists it, and as the boot copy has it
record IsTaken (parts : SetParts) (boot : BootMap) (key : Key) : Type 0 where
  row : Listed
  was : BootedFlag
  row_is : row_at key_cmp listed_key (listing parts) key ≡ Some row
  was_is : get boot key ≡ Some was
  kind : row.kind ≡ was.kind
  writable : is_read_write row.kind ≡ true

taken : (parts : SetParts) (boot : BootMap) (key : Key) → release_in parts ≡ boot_release boot → IsRenewable (Some boot) key → IsTaken parts boot key
taken parts boot key release_is goes = go (row_at key_cmp listed_key (listing parts) key) (get boot key) refl refl (facts_read parts boot key release_is) goes
  where
    go : (found : Option Listed) (entry : Option BootedFlag) → row_at key_cmp listed_key (listing parts) key ≡ found → get boot key ≡ entry
        → option_map (λ (x : Listed). (x.kind, x.value)) found ≡ option_map facts entry → entry_refusal entry ≡ None → IsTaken parts boot key
    go found None r w same goes = absurd cc
    go None (Some was) r w same goes = absurd cc
    go (Some row) (Some was) r w same goes =
        let one : (row.kind, row.value) ≡ facts was = some_is (row.kind, row.value) (facts was) same in
        let kind : row.kind ≡ was.kind = ap (λ (f : Kind × Bool). f.0) one in
        record { row = row; was = was; row_is = r; was_is = w; kind = kind; writable = ap is_read_write kind ∙ takes_kind was goes }

-- ---- over files that were checked again

module _ (files : four.Files) (opened : Opened) (passes : checked purpose.Copy files ≡ Ok opened) (key : Key) (takes : TakesFlag files key) where
  same_parts : parts_in opened ≡ takes.copy.parts
  same_parts = same_as_set purpose.Copy files takes.copy.parts takes.copy.files_are opened passes

  is_set : IsSetOf files purpose.Copy (parts_in opened)
  is_set = subst (IsSetOf files purpose.Copy) (sym same_parts) takes.copy.files_are

  flag_taken : IsTaken (parts_in opened) takes.boot key
  flag_taken = taken (parts_in opened) takes.boot key (ap release_in same_parts ∙ takes.copy.release_is) takes.renewable

  listed_here : listed (parts_in opened) key.0 key.1 ≡ Some flag_taken.row
  listed_here = listed_is (parts_in opened) key.0 key.1 ∙ flag_taken.row_is

  pub has_flag : IsSome (listed (parts_in opened) key.0 key.1)
  has_flag = ap is_some listed_here

  counted : opened.flag_map.count ≡ length (listing (parts_in opened))
  counted = flag_count opened (purpose.Copy, subst (λ (s : four.Files). checked purpose.Copy s ≡ Ok opened) (sym (checked_same purpose.Copy files opened passes)) passes)

  value_count : length (parts_in opened).values.bytes ≡ opened.flag_map.count
  value_count = is_set.agree.value_count ∙ sym (count_of files (parts_in opened) is_set) ∙ sym counted

  info_count : length (parts_in opened).infos.bytes ≡ opened.flag_map.count
  info_count = is_set.agree.info_count ∙ sym (count_of files (parts_in opened) is_set) ∙ sym counted

  pub values_fit : opened.flag_map.count ≤ length files.flag_val
  values_fit = omega (arith, value_count, bytes_fit flag_val_type files.flag_val (parts_in opened).values is_set.values)

  pub infos_fit : opened.flag_map.count ≤ length files.flag_info
  infos_fit = omega (arith, info_count, bytes_fit flag_info_type files.flag_info (parts_in opened).infos is_set.infos)

  module _ (index : ℕ) (index_is : IsIndexIn (parts_in opened) key index) where
    same_index : flag_taken.row.index ≡ index
    same_index = some_is flag_taken.row.index index (sym (ap (option_map place) listed_here) ∙ index_is)

    pub index_below : index < opened.flag_map.count
    index_below =
        let less : flag_taken.row.index < length (listing (parts_in opened)) = below files (parts_in opened) is_set key flag_taken.row flag_taken.row_is in
        omega (arith, counted, same_index, less)

    module _ (row : FlagState) (values infos : List ℕ) (values_are : values ≡ set (drop (length files.flag_val - opened.flag_map.count) files.flag_val) index (pick_byte row))
        (infos_are : infos ≡ set (drop (length files.flag_info - opened.flag_map.count) files.flag_info) index (renewed_byte row)) where
      values_set : values ≡ set (parts_in opened).values.bytes flag_taken.row.index (pick_byte row)
      values_set =
          values_are ∙ ap (λ (n : ℕ). set (drop (length files.flag_val - n) files.flag_val) index (pick_byte row)) (sym value_count)
          ∙ (λ i. set (last_bytes flag_val_type files.flag_val (parts_in opened).values is_set.values i) (sym same_index i) (pick_byte row))

      infos_set : infos ≡ set (parts_in opened).infos.bytes flag_taken.row.index (renewed_byte row)
      infos_set =
          infos_are ∙ ap (λ (n : ℕ). set (drop (length files.flag_info - n) files.flag_info) index (renewed_byte row)) (sym info_count)
          ∙ (λ i. set (last_bytes flag_info_type files.flag_info (parts_in opened).infos is_set.infos i) (sym same_index i) (renewed_byte row))

      pub can_restamp : CanRestamp (parts_in opened) values infos
      can_restamp =
          subst (λ (both : List ℕ × List ℕ). CanRestamp (parts_in opened) both.0 both.1) (λ i. (sym values_set i, sym infos_set i))
          (can_renew files (parts_in opened) is_set key flag_taken.row flag_taken.row_is flag_taken.writable row)

      pub copy_renewed : (new : four.Files) → IsSetOf new purpose.Copy (restamped (parts_in opened) values infos) → (name : List ℕ) (boot : BootMap) → IsCopyWith files name boot → IsRenewable (Some boot) key
          → IsCopyWith new name (boot_renewed row key boot)
      copy_renewed new new_is name boot copy goes =
          let same : parts_in opened ≡ copy.parts = same_as_set purpose.Copy files copy.parts copy.files_are opened passes in
          let release : release_in (parts_in opened) ≡ boot_release boot = ap release_in same ∙ copy.release_is in
          let notes : notes_in (parts_in opened) ≡ boot_notes boot = ap notes_in same ∙ copy.notes_are in
          let mine = taken (parts_in opened) boot key release goes in
          let one : mine.row ≡ flag_taken.row = some_is mine.row flag_taken.row (sym mine.row_is ∙ flag_taken.row_is) in
          let set_is : IsSetOf new purpose.Copy (restamped (parts_in opened) (set (parts_in opened).values.bytes flag_taken.row.index (pick_byte row)) (set (parts_in opened).infos.bytes flag_taken.row.index (renewed_byte row))) =
          subst (λ (both : List ℕ × List ℕ). IsSetOf new purpose.Copy (restamped (parts_in opened) both.0 both.1)) (λ i. (values_set i, infos_set i)) new_is in
          subst (λ (n : List ℕ). IsCopyWith new n (boot_renewed row key boot)) (ap (λ (p : SetParts). p.package_map.container) same ∙ copy.container_is)
          (renewed_set files (parts_in opened) is_set key flag_taken.row flag_taken.row_is flag_taken.writable row boot mine.was mine.was_is (ap (λ (x : Listed). x.kind) (sym one) ∙ mine.kind) release notes new set_is)

-- ---- the row that a container has of the flag

module _ (container : Container) (rows : List FlagState) where
  pub renewed_by : AreInOrder key_cmp row_key rows → HasRows container rows → (key : Key) (at : ℕ) → StandsAt key_cmp row_key rows key at → (row : FlagState) → row ≡ get_or rows at row
      → (boot : BootMap) → boot_renewed row key boot ≡ renewed_boot container key boot
  renewed_by order has key at stands row is boot =
      ap (λ (c : Container). unwrap_or c.boot boot) (renewed_by_row rows order key at stands row is container.digest (Some boot) boot refl)
      ∙ (λ i. with_flag boot key (renewed_flag (record {
        digest = container.digest;
        release = sym has.release i;
        server = sym has.server i;
        local = sym has.local i;
        boot = Some boot;
      }) key (get boot key)))

  -- where no row stands, the release has no such flag
  pub unreleased : container.release ≡ released rows → (key : Key) (at : ℕ) → WouldStandAt key_cmp row_key rows key at → IsSome (get container.release key) → ⊥
  unreleased release key at gap some =
      let none : get container.release key ≡ None =
      ap (λ (m : ReleaseMap). get m key) release ∙ get-map_of key_total row_key (λ (row : FlagState). facts_of row.entry) rows key ∙ ap (option_map (λ (row : FlagState). facts_of row.entry)) (row_at-gap key_total row_key rows key at gap) in
      true≢false (sym some ∙ ap is_some none)
