-- Files stand for at most one state.
use Rattle.std.proofs.Common.{◌≡◌, ℕ, ◌+◌, ◌*◌, ◌<◌, Bool, true, false, List, [], ◌∷◌, map, get_or, Option, Some, None, option_map, unwrap_or, is_some, inl, inr, refl, sym, ap, ◌∙◌, subst, arith, lit<, true≢false, slice_index}
use Rattle.std.specs.Prelude.{All, Contains, IsTrue}
use Rattle.std.specs.FinMap.{get, from_entries, same_map}
use Rattle.std.proofs.lemmas.List.Elements.{All-head, All-tail, All-contains}
use Rattle.std.proofs.lemmas.List.{get_or_default}
use Rattle.std.proofs.lemmas.Simd.{map-map}
use Rattle.std.specs.Cmp.{tied_itself}
use Rattle.std.specs.Option.{option_map_or}
use Rattle.acfg_base.specs.declared.releases.Kind.{Kind}
use Rattle.acfg_base.specs.Places.{AreInOrder, row_at}
use Rattle.acfg_base.specs.Release.{Key, ReleaseMap, key_cmp, is_read_write}
use Rattle.acfg_base.proofs.Keys.{key_total, key_exact}
use Rattle.acfg_base.proofs.Maps.{get-map_values}
use Rattle.acfg_base.proofs.Rows.{AreInOrder-same_keys, get-map_of, row_at-found, row_at-member}
use Rattle.acfg_device.specs.Panel.{Files}
use Rattle.acfg_images.specs.declared.fault.FileType.{FileType}
use Rattle.acfg_images.specs.declared.purpose.Use.{Use}
use Rattle.acfg_images.specs.declared.purpose.Use.TheVariants as purpose
use Rattle.acfg_images.specs.Files as four
use Rattle.acfg_images.specs.Set.{IsSet, IsSetOf, Listed, Notes, SetParts, listed_key, listing, release_in, notes_in}
use Rattle.acfg_model.specs.State.{BootMap, BootedFlag, Container, IsValid, IsValidContainer, OverrideMap, State, is_writable, name_cmp}
use Rattle.acfg_views.specs.Layout.{ListParts}
use Rattle.acfg_model.proofs.Kept.{name_total}
use Rattle.acfg_store.specs.declared.locals.LocalOverride.{LocalOverride}
use Rattle.acfg_store.specs.declared.names.Part.TheVariants.{Records, Release, Pointer, Boot}
use Rattle.acfg_store.specs.declared.names.Slot.{Slot}
use Rattle.acfg_store.specs.declared.names.Slot.TheVariants.{Zero, One}
use Rattle.acfg_store.specs.declared.records.Recorded.{Recorded}
use Rattle.acfg_store.specs.Keys.{recorded_name}
use Rattle.acfg_store.specs.Names.{path}
use Rattle.acfg_store.specs.Records.{AreRecords, bit, pointer_bytes, records_bytes}
use Rattle.acfg_store.specs.Stands.{AreBytesOf, AreFiles, AreListed, AreLocalsOf, Booted, Entry, Holds, HoldsOverrides, Stands, boot_notes, boot_release, entry_name, local_at, recorded, server_info, server_value, state_of}
use Rattle.acfg_store.proofs.OneSet.{one_parts, one_list_file}
use Rattle.acfg_store.proofs.Reading.{one_records, one_locals}

some_is : {A : Type 0} (x y : A) → Some x ≡ Some y → x ≡ y
some_is x y e = cc

pub nothing_some : {A : Type 0} (held : Option A) (a : A) → held ≡ None → held ≡ Some a → ⊥
nothing_some held a p q = cc

-- what a name has is one
pub one_file : {A : Type 0} (held : Option A) (a b : A) → held ≡ Some a → held ≡ Some b → a ≡ b
one_file held a b p q = some_is a b (sym p ∙ q)

pub one_four : (files : Files) (name_of : FileType → List ℕ) (a b : four.Files) → AreFiles files name_of a → AreFiles files name_of b → a ≡ b
one_four files name_of a b p q =
    let m = one_file _ a.package_map b.package_map p.package_map q.package_map in
    let f = one_file _ a.flag_map b.flag_map p.flag_map q.flag_map in
    let v = one_file _ a.flag_val b.flag_val p.flag_val q.flag_val in
    let n = one_file _ a.flag_info b.flag_info p.flag_info q.flag_info in
    λ i. record { package_map = m i; flag_map = f i; flag_val = v i; flag_info = n i }

-- ---- overrides over one release

bit_is : (v w : Bool) → bit v ≡ bit w → v ≡ w
bit_is false false e = refl
bit_is false true e = absurd (omega arith)
bit_is true false e = absurd (omega arith)
bit_is true true e = refl

-- a flag's byte of flag.val and its bit 1 tell its server override
one_override : (a b : Option Bool) (v : Bool) (n : ℕ) → bit (unwrap_or a v) ≡ bit (unwrap_or b v) → 2 * n + bit (is_some a) ≡ 2 * n + bit (is_some b) → a ≡ b
one_override None None v n e f = refl
one_override None (Some w) v n e f = absurd (omega arith)
one_override (Some u) None v n e f = absurd (omega arith)
one_override (Some u) (Some w) v n e f = ap (λ (x : Bool). Some x) (bit_is u w e)

-- a flag of the release is listed
listed_row : (parts : SetParts) (key : Key) (facts : Kind × Bool) → get (release_in parts) key ≡ Some facts
    → (row : Listed) × Contains (listing parts) row × (listed_key row ≡ key)
listed_row parts key facts e =
    elim (row_at key_cmp listed_key (listing parts) key) as (λ r. row_at key_cmp listed_key (listing parts) key ≡ r → option_map (λ (row : Listed). (row.kind, row.value)) r ≡ Some facts
    → (row : Listed) × Contains (listing parts) row × (listed_key row ≡ key)) [
      | None ↦ λ is none. absurd cc
      | Some row ↦ λ is some.
          let found = row_at-found key_total listed_key (listing parts) key row is in
          (row, found.0, key_exact (listed_key row) key found.1)
    ] refl (sym (get-map_of key_total listed_key (λ (row : Listed). (row.kind, row.value)) (listing parts) key) ∙ e)

-- maps that only have writable flags of the release are one, if they have one value at each listed flag
one_overrides : (parts : SetParts) (a b : OverrideMap)
    → ((key : Key) (value : Bool) → get a key ≡ Some value → IsTrue (is_writable (release_in parts) key))
    → ((key : Key) (value : Bool) → get b key ≡ Some value → IsTrue (is_writable (release_in parts) key))
    → All (λ (row : Listed). get a (listed_key row) ≡ get b (listed_key row)) (listing parts) → a ≡ b
one_overrides parts a b a-writable b-writable same = same_map key_total key_exact a b one_at
  where
    unwritable : (key : Key) → get (release_in parts) key ≡ None → IsTrue (is_writable (release_in parts) key) → ⊥
    unwritable key none is = absurd (true≢false (sym is ∙ ap (λ (facts : Option (Kind × Bool)). option_map_or (λ (f : Kind × Bool). is_read_write f.0) facts false) none))

    absent : (m : OverrideMap) → ((key : Key) (value : Bool) → get m key ≡ Some value → IsTrue (is_writable (release_in parts) key)) → (key : Key) → get (release_in parts) key ≡ None → get m key ≡ None
    absent m writable key none =
        elim (get m key) as (λ g. get m key ≡ g → g ≡ None) [
          | None ↦ λ is. refl
          | Some value ↦ λ is. absurd (unwritable key none (writable key value is))
        ] refl

    one_at : (key : Key) → get a key ≡ get b key
    one_at key =
        elim (get (release_in parts) key) as (λ g. get (release_in parts) key ≡ g → get a key ≡ get b key) [
          | None ↦ λ none. absent a a-writable key none ∙ sym (absent b b-writable key none)
          | Some facts ↦ λ some.
              let row = listed_row parts key facts some in
              subst (λ (k : Key). get a k ≡ get b k) row.2 (All-contains (λ (r : Listed). get a (listed_key r) ≡ get b (listed_key r)) (listing parts) row.0 same row.1)
        ] refl

-- ---- one file of one byte a flag, one list of local overrides

one_bytes : (file_type : ℕ) → file_type < 256 → (bytes name : List ℕ) (f g : Listed → ℕ) (flags : List Listed) → AreBytesOf file_type bytes name f flags → AreBytesOf file_type bytes name g flags
    → All (λ (row : Listed). f row ≡ g row) flags
one_bytes file_type type bytes name f g flags p q k d within =
    let same = one_list_file file_type type bytes p.parts q.parts p.are q.are in
    sym (p.each k d within) ∙ ap (λ (parts : ListParts). slice_index parts.bytes (get_or flags k d).index) same ∙ q.each k d within

one_local : (bytes : List ℕ) (a b : OverrideMap) (flags : List Listed) → AreLocalsOf bytes a flags → AreLocalsOf bytes b flags
    → All (λ (row : Listed). get a (listed_key row) ≡ get b (listed_key row)) flags
one_local bytes a b flags p q k d within =
    let same = one_locals bytes p.overrides q.overrides p.spells q.spells in
    sym (p.each k d within) ∙ ap (λ (overrides : List LocalOverride). local_at overrides (get_or flags k d).index) same ∙ q.each k d within

-- ---- boot copies

abbrev facts : BootedFlag → Kind × Bool
facts flag = (flag.kind, flag.value)

abbrev noted : BootedFlag → Bool × Bool
noted flag = (flag.server, flag.local)

one_flag : (a b : Option BootedFlag) → option_map facts a ≡ option_map facts b
    → option_map noted a ≡ option_map noted b → a ≡ b
one_flag None None e f = refl
one_flag None (Some y) e f = absurd cc
one_flag (Some x) None e f = absurd cc
one_flag (Some x) (Some y) e f =
    let kv = some_is (x.kind, x.value) (y.kind, y.value) e in
    let sl = some_is (x.server, x.local) (y.server, y.local) f in
    λ i. Some (record { kind = (kv i).0; value = (kv i).1; server = (sl i).0; local = (sl i).1 })

one_boot_map : (x y : BootMap) → boot_release x ≡ boot_release y → boot_notes x ≡ boot_notes y → x ≡ y
one_boot_map x y e f = same_map key_total key_exact x y (λ q.
    one_flag (get x q) (get y q)
    (sym (get-map_values key_total key_exact (λ (key : Key) (flag : BootedFlag). (flag.kind, flag.value)) x q) ∙ ap (λ (m : ReleaseMap). get m q) e
    ∙ get-map_values key_total key_exact (λ (key : Key) (flag : BootedFlag). (flag.kind, flag.value)) y q)
    (sym (get-map_values key_total key_exact (λ (key : Key) (flag : BootedFlag). (flag.server, flag.local)) x q) ∙ ap (λ (m : Notes). get m q) f
    ∙ get-map_values key_total key_exact (λ (key : Key) (flag : BootedFlag). (flag.server, flag.local)) y q))

-- a set's release and notes are those of its parts, and the parts are the files'
record SameSet (a b : ReleaseMap) (m n : Notes) : Type 0 where
  release : a ≡ b
  notes : m ≡ n

one_set : (set other : four.Files) (u v : Use) (name : List ℕ) (a b : ReleaseMap) (m n : Notes) → set ≡ other → IsSet set u name a m → IsSet other v name b n → SameSet a b m n
one_set set other u v name a b m n same p q =
    let parts = one_parts other u v p.parts q.parts (subst (λ (files : four.Files). IsSetOf files u p.parts) same p.files_are) q.files_are in
    record {
      release = sym p.release_is ∙ ap release_in parts ∙ q.release_is;
      notes = sym p.notes_are ∙ ap notes_in parts ∙ q.notes_are;
    }

pub pointer_is : (s t : Slot) → pointer_bytes s ≡ pointer_bytes t → s ≡ t
pointer_is Zero Zero e = refl
pointer_is Zero One e = absurd cc
pointer_is One Zero e = absurd cc
pointer_is One One e = refl

module _ (files : Files) (dir : List ℕ) where
  one_boot : (name : List ℕ) (s : Option Slot) (x : Option BootMap) (t : Option Slot) (y : Option BootMap) → Booted files dir name s x → Booted files dir name t y → x ≡ y
  one_boot name None (Some x) t y p q = absurd p
  one_boot name (Some s) None t y p q = absurd p
  one_boot name None None None None p q = refl
  one_boot name None None None (Some y) p q = absurd q
  one_boot name None None (Some t) None p q = absurd q
  one_boot name None None (Some t) (Some y) p q = absurd (nothing_some (files (path dir name Pointer)) (pointer_bytes t) p q.pointer)
  one_boot name (Some s) (Some x) None None p q = absurd (nothing_some (files (path dir name Pointer)) (pointer_bytes s) q p.pointer)
  one_boot name (Some s) (Some x) None (Some y) p q = absurd q
  one_boot name (Some s) (Some x) (Some t) None p q = absurd q
  one_boot name (Some s) (Some x) (Some t) (Some y) p q =
      let slot = pointer_is s t (one_file (files (path dir name Pointer)) (pointer_bytes s) (pointer_bytes t) p.pointer q.pointer) in
      let stand = subst (λ (slot : Slot). AreFiles files (λ (file : FileType). path dir name (Boot slot file)) q.set) (sym slot) q.stand in
      let set = one_four files (λ (file : FileType). path dir name (Boot s file)) p.set q.set p.stand stand in
      let same = one_set p.set q.set purpose.Copy purpose.Copy name (boot_release x) (boot_release y) (boot_notes x) (boot_notes y) set p.is_set q.is_set in
      ap (λ (b : BootMap). Some b) (one_boot_map x y same.release same.notes)

  -- ---- a container

  abbrev as_entry : (name : List ℕ) (release overrides : Slot) (boot : Option Slot) → Container → Entry
  as_entry name release overrides boot container = record { name = name; release_slot = release; override_slot = overrides; boot_slot = boot; container = container }

  module _ (name : List ℕ) (r o : Slot) (s t : Option Slot) (a b : Container) (a-valid : IsValidContainer a) (b-valid : IsValidContainer b)
      (p : Holds files dir (as_entry name r o s a)) (q : Holds files dir (as_entry name r o t b)) where
    set_is : p.release.set ≡ q.release.set
    set_is = one_four files (λ (file : FileType). path dir name (Release r file)) p.release.set q.release.set p.release.stand q.release.stand

    parts_are : p.release.is_set.parts ≡ q.release.is_set.parts
    parts_are = one_parts q.release.set purpose.Release purpose.Release p.release.is_set.parts q.release.is_set.parts
        (subst (λ (set : four.Files). IsSetOf set purpose.Release p.release.is_set.parts) set_is p.release.is_set.files_are) q.release.is_set.files_are

    release_is : a.release ≡ b.release
    release_is = sym p.release.is_set.release_is ∙ ap release_in parts_are ∙ q.release.is_set.release_is

    other : HoldsOverrides files dir (as_entry name r o t b) (listing p.release.is_set.parts)
    other = subst (λ (parts : SetParts). HoldsOverrides files dir (as_entry name r o t b) (listing parts)) (sym parts_are) q.overrides

    a_in : (m : OverrideMap) → ((key : Key) (value : Bool) → get m key ≡ Some value → IsTrue (is_writable a.release key)) → (key : Key) (value : Bool) → get m key ≡ Some value
        → IsTrue (is_writable (release_in p.release.is_set.parts) key)
    a_in m writable key value e = subst (λ (release : ReleaseMap). IsTrue (is_writable release key)) (sym p.release.is_set.release_is) (writable key value e)

    b_in : (m : OverrideMap) → ((key : Key) (value : Bool) → get m key ≡ Some value → IsTrue (is_writable b.release key)) → (key : Key) (value : Bool) → get m key ≡ Some value
        → IsTrue (is_writable (release_in p.release.is_set.parts) key)
    b_in m writable key value e =
        subst (λ (release : ReleaseMap). IsTrue (is_writable release key)) (sym (p.release.is_set.release_is ∙ release_is)) (writable key value e)

    server_is : a.server ≡ b.server
    server_is =
        let values = one_file _ p.overrides.values other.values p.overrides.values_stand other.values_stand in
        let infos = one_file _ p.overrides.infos other.infos p.overrides.infos_stand other.infos_stand in
        let flags = listing p.release.is_set.parts in
        let v = one_bytes 2 (lit< tt) other.values name (server_value a.server) (server_value b.server) flags (subst (λ (bytes : List ℕ). AreBytesOf 2 bytes name (server_value a.server) flags) values p.overrides.values_are) other.values_are in
        let n = one_bytes 3 (lit< tt) other.infos name (server_info a.server) (server_info b.server) flags (subst (λ (bytes : List ℕ). AreBytesOf 3 bytes name (server_info a.server) flags) infos p.overrides.infos_are) other.infos_are in
        one_overrides p.release.is_set.parts a.server b.server (a_in a.server a-valid.server) (b_in b.server b-valid.server)
        (λ k d within.
        let row = get_or flags k d in
        one_override (get a.server (listed_key row)) (get b.server (listed_key row)) row.value (bit (is_read_write row.kind)) (v k d within) (n k d within))

    local_is : a.local ≡ b.local
    local_is =
        let locals = one_file _ p.overrides.locals other.locals p.overrides.locals_stand other.locals_stand in
        let flags = listing p.release.is_set.parts in
        one_overrides p.release.is_set.parts a.local b.local (a_in a.local a-valid.local) (b_in b.local b-valid.local)
        (one_local other.locals a.local b.local flags (subst (λ (bytes : List ℕ). AreLocalsOf bytes a.local flags) locals p.overrides.locals_are) other.locals_are)

    container_is : a.digest ≡ b.digest → a ≡ b
    container_is digest =
        let boot = one_boot name s a.boot t b.boot p.boot q.boot in
        λ i. record { digest = digest i; release = release_is i; server = server_is i; local = local_is i; boot = boot i }

  one_container : (e f : Entry) → recorded e ≡ recorded f → IsValidContainer e.container → IsValidContainer f.container → Holds files dir e → Holds files dir f → e.container ≡ f.container
  one_container e f same e-valid f-valid e-held f-held =
      let n = ap (λ (row : Recorded). row.name) same in
      let r = ap (λ (row : Recorded). row.release) same in
      let o = ap (λ (row : Recorded). row.overrides) same in
      let alike : f ≡ as_entry e.name e.release_slot e.override_slot f.boot_slot f.container =
      λ i. record { name = sym n i; release_slot = sym r i; override_slot = sym o i; boot_slot = f.boot_slot; container = f.container } in
      container_is e.name e.release_slot e.override_slot e.boot_slot f.boot_slot e.container f.container e-valid f-valid e-held (subst (Holds files dir) alike f-held)
      (ap (λ (row : Recorded). row.digest) same)

  -- ---- the directory

  abbrev named : Entry → List ℕ × Container
  named entry = (entry.name, entry.container)

  same_named : (es fs : List Entry) → map recorded es ≡ map recorded fs → All (λ (e : Entry). IsValidContainer e.container) es → All (λ (e : Entry). IsValidContainer e.container) fs
      → All (Holds files dir) es → All (Holds files dir) fs → map named es ≡ map named fs
  same_named [] [] same es-valid fs-valid es-held fs-held = refl
  same_named [] (f ∷ fs) same es-valid fs-valid es-held fs-held = absurd cc
  same_named (e ∷ es) [] same es-valid fs-valid es-held fs-held = absurd cc
  same_named (e ∷ es) (f ∷ fs) same es-valid fs-valid es-held fs-held =
      let first : recorded e ≡ recorded f = cc in
      let rest : map recorded es ≡ map recorded fs = cc in
      let V : Entry → Type 0 = λ e. IsValidContainer e.container in
      let container = one_container e f first (All-head V e es es-valid) (All-head V f fs fs-valid) (All-head (Holds files dir) e es es-held) (All-head (Holds files dir) f fs fs-held) in
      let others = same_named es fs rest (All-tail V e es es-valid) (All-tail V f fs fs-valid) (All-tail (Holds files dir) e es es-held) (All-tail (Holds files dir) f fs fs-held) in
      let name = ap (λ (row : Recorded). row.name) first in
      λ i. (name i, container i) ∷ others i

  listed_one : (es fs : List Entry) → AreListed files dir es → AreListed files dir fs → AreRecords (map recorded es) → AreRecords (map recorded fs) → map recorded es ≡ map recorded fs
  listed_one es fs (inl p) (inl q) es-are fs-are =
      let bytes = one_file (files (path dir [] Records)) (records_bytes (map recorded es)) (records_bytes (map recorded fs)) p q in
      one_records (records_bytes (map recorded es)) (map recorded es) (map recorded fs) (record { spelled = refl; lawful = es-are }) (record { spelled = bytes; lawful = fs-are })
  listed_one es fs (inl p) (inr q) es-are fs-are = absurd (nothing_some (files (path dir [] Records)) (records_bytes (map recorded es)) q.1 p)
  listed_one es fs (inr p) (inl q) es-are fs-are = absurd (nothing_some (files (path dir [] Records)) (records_bytes (map recorded fs)) p.1 q)
  listed_one es fs (inr p) (inr q) es-are fs-are = ap (map recorded) (p.0 ∙ sym q.0)

  pub each_valid : (es : List Entry) → AreRecords (map recorded es) → IsValid (state_of es) → All (λ (e : Entry). IsValidContainer e.container) es
  each_valid es are valid k d within =
      let e = get_or es k d in
      let order : AreInOrder name_cmp entry_name es = sym (AreInOrder-same_keys name_total recorded_name entry_name (map recorded es) es (map-map recorded_name recorded es)) ∙ are.order in
      let here = row_at-member name_total entry_name es order e.name e (k, within, get_or_default es k e d within) (tied_itself name_total e.name) in
      valid.each e.name e.container (get-map_of name_total entry_name (λ (entry : Entry). entry.container) es e.name ∙ ap (option_map (λ (entry : Entry). entry.container)) here)

  -- files stand for at most one state
  pub one_state : (a b : State) → Stands files dir a → Stands files dir b → a ≡ b
  one_state a b p q =
      let rows = listed_one p.entries q.entries p.lies.listed q.lies.listed p.lies.lawful q.lies.lawful in
      let p-valid = each_valid p.entries p.lies.lawful (subst IsValid p.state_is p.valid) in
      let q-valid = each_valid q.entries q.lies.lawful (subst IsValid q.state_is q.valid) in
      p.state_is ∙ ap (λ (rows : List (List ℕ × Container)). from_entries {R = name_cmp} rows) (same_named p.entries q.entries rows p-valid q-valid p.lies.each q.lies.each) ∙ sym q.state_is
