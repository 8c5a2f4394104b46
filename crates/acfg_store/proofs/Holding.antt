-- A container that code makes of a slot's files is what the files hold.
use Rattle.std.proofs.Common.{◌≡◌, ℕ, zero, suc, ◌+◌, ◌*◌, ◌<◌, ◌≤◌, ◌⊎◌, Bool, true, false, cond, ◌==◌, List, map, length, get_or, Option, Some, None, option_map, unwrap_or, is_some, inl, inr, refl, sym, ap, ◌∙◌, subst, arith, slice_index, true≢false, ◌||◌}
use Rattle.std.specs.Prelude.{All, Contains, IsSome, IsTrue, option_and_then}
use Rattle.std.specs.FinMap.{get, same_map}
use Rattle.std.specs.Option.{option_map_or}
use Rattle.std.specs.Cmp.{tied_itself}
use Rattle.std.proofs.lemmas.List.{get_or-map, get_or_default, length-map}
use Rattle.std.proofs.lemmas.List.Elements.{All-contains, All-map}
use Rattle.std.proofs.lemmas.Bool.{eqb-true}
use Rattle.acfg_base.specs.declared.releases.Kind.{Kind}
use Rattle.acfg_base.specs.Places.{AreInOrder, row_at}
use Rattle.acfg_base.specs.Release.{HasLawfulKeys, IsKey, Key, ReleaseMap, facts_of, key_cmp, is_read_write}
use Rattle.acfg_base.proofs.Keys.{key_exact, key_total}
use Rattle.acfg_base.proofs.Maps.{get-map_values}
use Rattle.acfg_base.proofs.Rows.{AreInOrder-map, get-map_of, get-map_where, row_at-found, row_at-map, row_at-member}
use Rattle.acfg_images.specs.declared.purpose.Use.TheVariants.{Copy}
use Rattle.acfg_images.specs.Files as four
use Rattle.acfg_images.specs.Set.{IsInfo, IsSetOf, Listed, SetParts, flags_of, has_local, has_read_write, has_server, index_of, listed_flag, listed_key, listing, notes_in, packages_of, release_in}
use Rattle.acfg_images.proofs.Pigeon.{AreNumbered-below}
use Rattle.acfg_model.specs.declared.containers.FlagState.{FlagState}
use Rattle.acfg_model.specs.declared.views.Booted.{Booted}
use Rattle.acfg_model.specs.FlagStates.{local_in, row_key, server_in}
use Rattle.acfg_model.specs.FlagStates as kept
use Rattle.acfg_model.specs.State.{BootMap, BootedFlag, OverrideMap, is_writable}
use Rattle.acfg_model.specs.Views.{boot_of, booted_flag, booted_key}
use Rattle.acfg_store.specs.declared.locals.LocalOverride.{LocalOverride}
use Rattle.acfg_store.specs.declared.placed.Placed.{Placed}
use Rattle.acfg_store.specs.Placed.{AreFlagsOf, IsInfoAt, IsInfoOf, IsValueAt, as_listed, boot_row, placed_key, server_at, state_row}
use Rattle.acfg_store.specs.Records.{bit}
use Rattle.acfg_store.specs.Stands.{boot_notes, boot_release, local_at, server_info, server_value}
use Rattle.acfg_store.proofs.Overlaid.{byte_at}
use Rattle.acfg_store.proofs.Placing.{all_held, all_listed}
use Rattle.acfg_views.specs.Parts.{list_parts_of}
use Rattle.acfg_views.specs.Reading.{OpenList, byte_in}

among : {X : Type 0} (xs : List X) (k : ℕ) (d : X) → k < length xs → Contains xs (get_or xs k d)
among xs k d within = (k, within, get_or_default xs k (get_or xs k d) d within)

some_is : {A : Type 0} (x y : A) → Some x ≡ Some y → x ≡ y
some_is x y e = cc

-- ---- one flag

bit_of : (value : ℕ) → value ≤ 1 → bit (value == 1) ≡ value
bit_of zero small = refl
bit_of (suc zero) small = refl
bit_of (suc (suc n)) small = absurd (omega arith)

-- what a flag's two bytes say: the value, and the info byte
module _ (kind : Kind) (released : Bool) (byte value : ℕ) (is : IsInfoOf kind released byte value) (small : value ≤ 1) where
  abbrev override_of : Option Bool
  override_of = cond (byte == 3) (Some (value == 1)) None

  pub value_told : value ≡ bit (unwrap_or override_of released)
  value_told = elim (byte == 3) as (λ b. (byte == 3) ≡ b → value ≡ bit (unwrap_or (cond b (Some (value == 1)) None) released)) [
    | true ↦ λ hit. sym (bit_of value small)
    | false ↦ λ miss. is.value_is (λ same. true≢false (sym (ap (λ (n : ℕ). n == 3) same) ∙ miss))
  ] refl

  three : (byte == 3) ≡ true → (byte ≡ 3) × IsTrue (is_read_write kind)
  three hit = three_of is.lawful
    where
      even : (b : Bool) → 3 ≡ 2 * bit b → ⊥
      even true e = omega (arith, e)
      even false e = omega (arith, e)

      three_of : (byte ≡ 2 * bit (is_read_write kind)) ⊎ (IsTrue (is_read_write kind) × (byte ≡ 3)) → (byte ≡ 3) × IsTrue (is_read_write kind)
      three_of (inl e) = absurd (even (is_read_write kind) (sym (eqb-true byte 3 hit) ∙ e))
      three_of (inr p) = (p.1, p.0)

  pub info_told : byte ≡ 2 * bit (is_read_write kind) + bit (is_some override_of)
  info_told = elim (byte == 3) as (λ b. (byte == 3) ≡ b → byte ≡ 2 * bit (is_read_write kind) + bit (is_some (cond b (Some (value == 1)) None))) [
    | true ↦ λ hit. (three hit).0 ∙ ap (λ (b : Bool). 2 * bit b + 1) (sym (three hit).1)
    | false ↦ λ miss. plain is.lawful miss
  ] refl
    where
      plain : (byte ≡ 2 * bit (is_read_write kind)) ⊎ (IsTrue (is_read_write kind) × (byte ≡ 3)) → (byte == 3) ≡ false → byte ≡ 2 * bit (is_read_write kind) + 0
      plain (inl e) miss = omega (arith, e)
      plain (inr p) miss = absurd (true≢false (sym (ap (λ (n : ℕ). n == 3) p.1) ∙ miss))

  -- an override is a read-write flag's
  pub override_writable : IsSome override_of → IsTrue (is_read_write kind)
  override_writable = elim (byte == 3) as (λ b. (byte == 3) ≡ b → IsSome (cond b (Some (value == 1)) None) → IsTrue (is_read_write kind)) [
    | true ↦ λ hit some. (three hit).1
    | false ↦ λ miss some. absurd (true≢false (sym some))
  ] refl

-- ---- all of the flags

some_of : {A : Type 0} (o : Option A) (v : A) → o ≡ Some v → IsSome o
some_of o v e = rw e refl

abbrev kind_value : Listed → Kind × Bool
kind_value row = (row.kind, row.value)

abbrev notes : Listed → Bool × Bool
notes row = (has_server row.bits, has_local row.bits)

module _ (parts : SetParts) (flags : List Placed) (are : AreFlagsOf parts flags) where
  at_listed : (x : Placed) → Contains flags x → row_at key_cmp placed_key flags (placed_key x) ≡ Some x
  at_listed x in_list = row_at-member key_total placed_key flags are.order (placed_key x) x in_list (tied_itself key_total (placed_key x))

  -- ---- an override slot

  module _ (values infos : OpenList) (locals : List LocalOverride) where
    abbrev row_of : Placed → FlagState
    row_of = state_row values infos locals

    abbrev rows : List FlagState
    rows = map row_of flags

    pub rows_in_order : AreInOrder key_cmp row_key rows
    rows_in_order = AreInOrder-map key_total row_key row_of flags are.order

    row_there : (q : Key) → row_at key_cmp row_key rows q ≡ option_map row_of (row_at key_cmp placed_key flags q)
    row_there q = row_at-map key_total row_key row_of flags q

    one_release : (r : Option Placed) → option_map kind_value (option_map as_listed r) ≡ option_map (λ (row : FlagState). facts_of row.entry) (option_map row_of r)
    one_release None = refl
    one_release (Some x) = refl

    get_release : (q : Key) → get (kept.release_in rows) q ≡ option_map (λ (row : FlagState). facts_of row.entry) (option_map row_of (row_at key_cmp placed_key flags q))
    get_release q = get-map_of key_total row_key (λ (row : FlagState). facts_of row.entry) rows q ∙ ap (option_map (λ (row : FlagState). facts_of row.entry)) (row_there q)

    -- the release of the set
    pub release_same : release_in parts ≡ kept.release_in rows
    release_same = same_map key_total key_exact (release_in parts) (kept.release_in rows) (λ q.
        get-map_of key_total listed_key kind_value (listing parts) q ∙ ap (option_map kind_value) (are.found q)
        ∙ one_release (row_at key_cmp placed_key flags q) ∙ sym (get_release q))

    get_server : (q : Key) → get (server_in rows) q ≡ option_and_then (λ (row : FlagState). row.server) (option_map row_of (row_at key_cmp placed_key flags q))
    get_server q = get-map_where key_total row_key (λ (row : FlagState). row.server) rows rows_in_order q ∙ ap (option_and_then (λ (row : FlagState). row.server)) (row_there q)

    get_local : (q : Key) → get (local_in rows) q ≡ option_and_then (λ (row : FlagState). row.local) (option_map row_of (row_at key_cmp placed_key flags q))
    get_local q = get-map_where key_total row_key (λ (row : FlagState). row.local) rows rows_in_order q ∙ ap (option_and_then (λ (row : FlagState). row.local)) (row_there q)

    pub server_is : (x : Placed) → Contains flags x → get (server_in rows) (placed_key x) ≡ server_at values infos x.found.index
    server_is x in_list = get_server (placed_key x) ∙ ap (λ (r : Option Placed). option_and_then (λ (row : FlagState). row.server) (option_map row_of r)) (at_listed x in_list)

    pub local_is : (x : Placed) → Contains flags x → get (local_in rows) (placed_key x) ≡ local_at locals x.found.index
    local_is x in_list = get_local (placed_key x) ∙ ap (λ (r : Option Placed). option_and_then (λ (row : FlagState). row.local) (option_map row_of r)) (at_listed x in_list)

    module _ (small : All (λ (x : Placed). IsValueAt x (byte_in values x.found.index)) flags) (lawful : All (λ (x : Placed). IsInfoAt values x (byte_in infos x.found.index)) flags) where
      -- the bytes are those of the server's overrides
      pub values_same : All (λ (row : Listed). slice_index (list_parts_of values).bytes row.index ≡ server_value (server_in rows) row) (listing parts)
      values_same = all_listed parts flags are (λ (row : Listed). slice_index (list_parts_of values).bytes row.index ≡ server_value (server_in rows) row) (λ k d within.
          let x = get_or flags k d in
          byte_at values x.found.index ∙ value_told x.found.kind x.found.value (byte_in infos x.found.index) (byte_in values x.found.index) (lawful k d within) (small k d within)
          ∙ ap (λ (o : Option Bool). bit (unwrap_or o x.found.value)) (sym (server_is x (among flags k d within))))

      pub infos_same : All (λ (row : Listed). slice_index (list_parts_of infos).bytes row.index ≡ server_info (server_in rows) row) (listing parts)
      infos_same = all_listed parts flags are (λ (row : Listed). slice_index (list_parts_of infos).bytes row.index ≡ server_info (server_in rows) row) (λ k d within.
          let x = get_or flags k d in
          byte_at infos x.found.index ∙ info_told x.found.kind x.found.value (byte_in infos x.found.index) (byte_in values x.found.index) (lawful k d within) (small k d within)
          ∙ ap (λ (o : Option Bool). 2 * bit (is_read_write x.found.kind) + bit (is_some o)) (sym (server_is x (among flags k d within))))

    pub locals_same : All (λ (row : Listed). local_at locals row.index ≡ get (local_in rows) (listed_key row)) (listing parts)
    locals_same = all_listed parts flags are (λ (row : Listed). local_at locals row.index ≡ get (local_in rows) (listed_key row)) (λ k d within.
        let x = get_or flags k d in sym (local_is x (among flags k d within)))

    -- what overrides a flag is of a read-write flag
    module _ (of : FlagState → Option Bool) (may : All (λ (x : Placed). IsSome (of (row_of x)) → IsTrue (is_read_write x.found.kind)) flags) where
      writable : (q : Key) (v : Bool) → option_and_then of (option_map row_of (row_at key_cmp placed_key flags q)) ≡ Some v → IsTrue (is_writable (kept.release_in rows) q)
      writable q v some = go (row_at key_cmp placed_key flags q) refl some
        where
          go : (r : Option Placed) → row_at key_cmp placed_key flags q ≡ r → option_and_then of (option_map row_of r) ≡ Some v → IsTrue (is_writable (kept.release_in rows) q)
          go None is e = absurd cc
          go (Some x) is e =
              let found = row_at-found key_total placed_key flags q x is in
              let rw_kind : IsTrue (is_read_write x.found.kind) = All-contains (λ (x : Placed). IsSome (of (row_of x)) → IsTrue (is_read_write x.found.kind)) flags x may found.0 (some_of (of (row_of x)) v e) in
              let got : get (kept.release_in rows) q ≡ Some (x.found.kind, x.found.value) = get_release q ∙ ap (λ (r : Option Placed). option_map (λ (row : FlagState). facts_of row.entry) (option_map row_of r)) is in
              ap (λ (o : Option (Kind × Bool)). option_map_or (λ (f : Kind × Bool). is_read_write f.0) o false) got ∙ rw_kind

    pub server_writable : All (λ (x : Placed). IsInfoAt values x (byte_in infos x.found.index)) flags → All (λ (x : Placed). IsValueAt x (byte_in values x.found.index)) flags
        → (q : Key) (v : Bool) → get (server_in rows) q ≡ Some v → IsTrue (is_writable (kept.release_in rows) q)
    server_writable lawful small q v some = writable (λ (row : FlagState). row.server)
        (λ k d within. let x = get_or flags k d in override_writable x.found.kind x.found.value (byte_in infos x.found.index) (byte_in values x.found.index) (lawful k d within) (small k d within))
        q v (sym (get_server q) ∙ some)

    pub local_writable : All (λ (x : Placed). IsSome (local_at locals x.found.index) → IsTrue (is_read_write x.found.kind)) flags
        → (q : Key) (v : Bool) → get (local_in rows) q ≡ Some v → IsTrue (is_writable (kept.release_in rows) q)
    local_writable may q v some = writable (λ (row : FlagState). row.local) may q v (sym (get_local q) ∙ some)

  -- ---- a boot copy

  abbrev booted : List Booted
  booted = map boot_row flags

  get_boot : (q : Key) → get (boot_of booted) q ≡ option_map booted_flag (option_map boot_row (row_at key_cmp placed_key flags q))
  get_boot q = get-map_of key_total booted_key booted_flag booted q ∙ ap (option_map booted_flag) (row_at-map key_total booted_key boot_row flags q)

  one_booted : (r : Option Placed) → option_map kind_value (option_map as_listed r) ≡ option_map (λ (flag : BootedFlag). (flag.kind, flag.value)) (option_map booted_flag (option_map boot_row r))
  one_booted None = refl
  one_booted (Some x) = refl

  one_noted : (r : Option Placed) → option_map notes (option_map as_listed r) ≡ option_map (λ (flag : BootedFlag). (flag.server, flag.local)) (option_map booted_flag (option_map boot_row r))
  one_noted None = refl
  one_noted (Some x) = refl

  pub boot_release_same : release_in parts ≡ boot_release (boot_of booted)
  boot_release_same = same_map key_total key_exact (release_in parts) (boot_release (boot_of booted)) (λ q.
      get-map_of key_total listed_key kind_value (listing parts) q ∙ ap (option_map kind_value) (are.found q) ∙ one_booted (row_at key_cmp placed_key flags q)
      ∙ ap (option_map (λ (flag : BootedFlag). (flag.kind, flag.value))) (sym (get_boot q))
      ∙ sym (get-map_values key_total key_exact (λ (key : Key) (flag : BootedFlag). (flag.kind, flag.value)) (boot_of booted) q))

  pub boot_notes_same : notes_in parts ≡ boot_notes (boot_of booted)
  boot_notes_same = same_map key_total key_exact (notes_in parts) (boot_notes (boot_of booted)) (λ q.
      get-map_of key_total listed_key notes (listing parts) q ∙ ap (option_map notes) (are.found q) ∙ one_noted (row_at key_cmp placed_key flags q)
      ∙ ap (option_map (λ (flag : BootedFlag). (flag.server, flag.local))) (sym (get_boot q))
      ∙ sym (get-map_values key_total key_exact (λ (key : Key) (flag : BootedFlag). (flag.server, flag.local)) (boot_of booted) q))

  -- each flag of it is listed with these bits
  boot_found : (q : Key) (flag : BootedFlag) → get (boot_of booted) q ≡ Some flag → (x : Placed) × Contains flags x × (placed_key x ≡ q) × (booted_flag (boot_row x) ≡ flag)
  boot_found q flag some = go (row_at key_cmp placed_key flags q) refl (sym (get_boot q) ∙ some)
    where
      go : (r : Option Placed) → row_at key_cmp placed_key flags q ≡ r → option_map booted_flag (option_map boot_row r) ≡ Some flag
          → (x : Placed) × Contains flags x × (placed_key x ≡ q) × (booted_flag (boot_row x) ≡ flag)
      go None is e = absurd cc
      go (Some x) is e =
          let found = row_at-found key_total placed_key flags q x is in
          (x, found.0, key_exact (placed_key x) q found.1, some_is (booted_flag (boot_row x)) flag e)

  pub boot_keys : HasLawfulKeys (release_in parts) → (q : Key) (flag : BootedFlag) → get (boot_of booted) q ≡ Some flag → IsKey q
  boot_keys keys q flag some = keys.each q (flag.kind, flag.value)
      (ap (λ (m : ReleaseMap). get m q) boot_release_same ∙ get-map_values key_total key_exact (λ (key : Key) (flag : BootedFlag). (flag.kind, flag.value)) (boot_of booted) q
      ∙ ap (option_map (λ (flag : BootedFlag). (flag.kind, flag.value))) some)

  pub boot_noted : All (λ (row : Listed). IsTrue (has_server row.bits || has_local row.bits) → IsTrue (is_read_write row.kind)) (listing parts)
      → (q : Key) (flag : BootedFlag) → get (boot_of booted) q ≡ Some flag → IsTrue (flag.server || flag.local) → IsTrue (is_read_write flag.kind)
  boot_noted may q flag some =
      let found = boot_found q flag some in
      let held = all_held parts flags are (λ (row : Listed). IsTrue (has_server row.bits || has_local row.bits) → IsTrue (is_read_write row.kind)) may in
      let at = All-contains (λ (x : Placed). IsTrue (has_server x.found.bits || has_local x.found.bits) → IsTrue (is_read_write x.found.kind)) flags found.0 held found.1 in
      subst (λ (f : BootedFlag). IsTrue (f.server || f.local) → IsTrue (is_read_write f.kind)) found.3 (λ noted. at noted)

-- ---- the notes of a boot copy's set

noted : (byte : ℕ) (kind : Kind) → IsInfo Copy byte → has_read_write byte ≡ is_read_write kind → IsTrue (has_server byte || has_local byte) → IsTrue (is_read_write kind)
noted byte kind (inl e) same some = absurd (true≢false (sym some ∙ ap (λ (b : ℕ). has_server b || has_local b) e))
noted byte kind (inr (inl e)) same some = absurd (true≢false (sym some ∙ ap (λ (b : ℕ). has_server b || has_local b) e))
noted byte kind (inr (inr (inl e))) same some = sym same ∙ ap has_read_write e
noted byte kind (inr (inr (inr (inl e)))) same some = sym same ∙ ap has_read_write e
noted byte kind (inr (inr (inr (inr e)))) same some = sym same ∙ ap has_read_write e

pub copy_noted : (files : four.Files) (parts : SetParts) → IsSetOf files Copy parts → All (λ (row : Listed). IsTrue (has_server row.bits || has_local row.bits) → IsTrue (is_read_write row.kind)) (listing parts)
copy_noted files parts is =
    All-map (λ (row : Listed). IsTrue (has_server row.bits || has_local row.bits) → IsTrue (is_read_write row.kind)) (listed_flag parts) (flags_of parts) (λ k d within.
    let flag = get_or (flags_of parts) k d in
    let index = index_of (packages_of parts) in
    let len = length-map (flags_of parts) index in
    let below = AreNumbered-below (map index (flags_of parts)) is.agree.indexes k (index d) (omega (arith, len, within)) in
    let at : get_or (map index (flags_of parts)) k (index d) ≡ index flag = get_or-map index (flags_of parts) k d (index d) within in
    let inside : index flag < length parts.infos.bytes = omega (arith, below, at, len, is.agree.info_count) in
    noted (slice_index parts.infos.bytes (index flag)) flag.kind (is.info_bytes (index flag) 0 inside) (is.agree.kinds k d within))
