-- Files at fault: there is one first file at most, and none where the files stand for a state.
use Rattle.std.proofs.Common.{◌≡◌, ℕ, ◌+◌, ◌*◌, ◌<◌, ◌≤◌, ◌⊎◌, Bool, true, false, List, [], ◌∷◌, ◌++◌, map, length, get_or, Option, Some, None, option_map, unwrap_or, is_some, inl, inr, refl, sym, ap, ◌∙◌, subst, arith, lit<, slice_index, true≢false}
use Rattle.std.specs.Prelude.{⊤, All, IsSome, IsTrue, Ok}
use Rattle.std.specs.FinMap.{get}
use Rattle.std.specs.Option.{option_map_or}
use Rattle.std.proofs.lemmas.List.Elements.{All-cons, All-head, All-nil, All-tail}
use Rattle.acfg_base.specs.declared.releases.Kind.{Kind}
use Rattle.acfg_base.specs.Release.{Key, ReleaseMap, is_read_write}
use Rattle.acfg_base.proofs.Keys.{key_total}
use Rattle.acfg_base.proofs.Rows.{get-map_of}
use Rattle.acfg_device.specs.Panel.{Files}
use Rattle.acfg_images.specs.declared.fault.FileType.{FileType}
use Rattle.acfg_images.specs.declared.fault.FileType.TheVariants as image
use Rattle.acfg_images.specs.declared.purpose.Use.{Use}
use Rattle.acfg_images.specs.declared.purpose.Use.TheVariants as purpose
use Rattle.acfg_images.specs.Faults.{Opened, checked}
use Rattle.acfg_images.specs.Files as four
use Rattle.acfg_images.specs.Set.{IsSet, Listed, Notes, SetParts, listed_key, listing}
use Rattle.acfg_images.proofs.Law.{no_fault, same_as_set}
use Rattle.acfg_model.specs.State.{BootMap, IsValid, IsValidContainer, OverrideMap, State, is_writable}
use Rattle.acfg_store.specs.declared.names.OverrideFile.TheVariants as override
use Rattle.acfg_store.specs.declared.names.Part.{Part}
use Rattle.acfg_store.specs.declared.names.Part.TheVariants.{Records, Release, Override, Pointer, Boot}
use Rattle.acfg_store.specs.declared.names.Slot.{Slot}
use Rattle.acfg_store.specs.declared.names.Slot.TheVariants.{Zero, One}
use Rattle.acfg_store.specs.declared.records.Recorded.{Recorded}
use Rattle.acfg_store.specs.Damage.{HasBytes, HasLocals, IsDamaged, IsElsewhere, IsFirst, IsInfoOver, IsItsRelease, IsSound, IsSoundIn, IsValue, IsWhole, ListsFlags, parts_of}
use Rattle.acfg_store.specs.Names.{path}
use Rattle.acfg_store.specs.Records.{AreRecords, SpellsRecords, bit, pointer_bytes, records_bytes}
use Rattle.acfg_store.specs.Stands.{AreFiles, AreListed, Booted, Entry, Holds, HoldsOverrides, HoldsRelease, Stands, boot_notes, boot_release, recorded, server_value}
use Rattle.acfg_store.proofs.OneSet.{one_list_file}
use Rattle.acfg_store.proofs.OneState.{each_valid, nothing_some, one_file, one_four, pointer_is}
use Rattle.acfg_store.proofs.OwnKeys.{own_keys}
use Rattle.acfg_store.proofs.Reading.{one_records}
use Rattle.acfg_views.specs.Layout.{IsListFile, ListParts}

-- ---- the first that isn't sound

module _ {X : Type 0} (P : X → Type 0) where
  pub one_first : (xs : List X) (x y : X) → IsFirst P xs x → IsFirst P xs y → x ≡ y
  one_first [] x y p q = absurd p
  one_first (z ∷ xs) x y (inl p) (inl q) = p.0 ∙ sym q.0
  one_first (z ∷ xs) x y (inl p) (inr q) = absurd (p.1 q.0)
  one_first (z ∷ xs) x y (inr p) (inl q) = absurd (q.1 p.0)
  one_first (z ∷ xs) x y (inr p) (inr q) = one_first xs x y p.1 q.1

  pub none_first : (xs : List X) (x : X) → All P xs → IsFirst P xs x → ⊥
  none_first [] x all first = first
  none_first (z ∷ xs) x all (inl first) = first.1 (All-head P z xs all)
  none_first (z ∷ xs) x all (inr first) = none_first xs x (All-tail P z xs all) first.1

  pub first_behind : (xs ys : List X) (y : X) → All P xs → IsFirst P ys y → IsFirst P (xs ++ ys) y
  first_behind [] ys y all first = first
  first_behind (z ∷ xs) ys y all first = inr (All-head P z xs all, first_behind xs ys y (All-tail P z xs all) first)

-- ---- a container that is held is whole

some_of : {A : Type 0} (o : Option A) (v : A) → o ≡ Some v → IsSome o
some_of o v e = rw e refl

bit_small : (b : Bool) → bit b ≤ 1
bit_small true = omega arith
bit_small false = omega arith

module _ (files : Files) (name_of : FileType → List ℕ) (use_of : Use) (set : four.Files) (name : List ℕ) (release : ReleaseMap) (notes : Notes)
    (stand : AreFiles files name_of set) (is_set : IsSet set use_of name release notes) (IsMeant : four.Files → Opened → Type 0) where
  there : (file : FileType) → IsSome (files (name_of file))
  there image.PackageMap = some_of _ set.package_map stand.package_map
  there image.FlagMap = some_of _ set.flag_map stand.flag_map
  there image.FlagVal = some_of _ set.flag_val stand.flag_val
  there image.FlagInfo = some_of _ set.flag_info stand.flag_info

  -- where the set is the one that is meant, each of its files is sound
  pub set_sound : ((opened : Opened) → opened.package_map.container ≡ name → IsMeant set opened) → (file : FileType) → IsSoundIn files name_of use_of IsMeant file
  set_sound meant file = record {
    there = there file;
    clear = λ other other-stand.
        let same = one_four files name_of set other stand other-stand in
        subst (λ (s : four.Files). IsElsewhere file (IsMeant s) (checked use_of s)) same clear_here;
  }
    where
      clear_here : IsElsewhere file (IsMeant set) (checked use_of set)
      clear_here =
          let ok = no_fault use_of set name release notes is_set in
          let parts = same_as_set use_of set is_set.parts is_set.files_are ok.0 ok.1 in
          let container : ok.0.package_map.container ≡ name = ap (λ (p : SetParts). p.package_map.container) parts ∙ is_set.container_is in
          subst (IsElsewhere file (IsMeant set)) (sym ok.1) (record { meant = λ _. meant ok.0 container })

module _ (files : Files) (dir : List ℕ) (e : Entry) (valid : IsValidContainer e.container) (release : HoldsRelease files dir e) (overrides : HoldsOverrides files dir e (listing release.is_set.parts)) where
  abbrev flags : List Listed
  flags = listing release.is_set.parts

  -- the flags that the release lists are these
  same_flags : (other : List Listed) → ListsFlags files dir (recorded e) other → flags ≡ other
  same_flags other lists =
      let same = one_four files (λ (file : FileType). path dir e.name (Release e.release_slot file)) release.set lists.set release.stand lists.stand in
      let is = subst (λ (s : four.Files). checked purpose.Release s ≡ Ok lists.opened) (sym same) lists.is_set in
      sym (lists.are ∙ ap listing (same_as_set purpose.Release release.set release.is_set.parts release.is_set.files_are lists.opened is))

  release_sound : (file : FileType) → IsSound files dir (recorded e) (Release e.release_slot file)
  release_sound = set_sound files (λ (file : FileType). path dir e.name (Release e.release_slot file)) purpose.Release release.set e.name e.container.release release.notes release.stand release.is_set
      (IsItsRelease (recorded e)) (λ opened name. record { name = name; digest = release.digest })

  -- an overridden flag is read-write
  writable : (m : OverrideMap) → ((key : Key) (value : Bool) → get m key ≡ Some value → IsTrue (is_writable e.container.release key)) → (k : ℕ) (d : Listed) → k < length flags
      → (o : Option Bool) → get m (listed_key (get_or flags k d)) ≡ o → IsSome o → IsTrue (is_read_write (get_or flags k d).kind)
  writable m may k d within None is some = absurd (true≢false (sym some))
  writable m may k d within (Some v) is some =
      let row = get_or flags k d in
      let own = own_keys purpose.Release release.set release.is_set.parts release.is_set.files_are k d within in
      let got : get e.container.release (listed_key row) ≡ Some (row.kind, row.value) =
      ap (λ (m : ReleaseMap). get m (listed_key row)) (sym release.is_set.release_is) ∙ get-map_of key_total listed_key (λ (row : Listed). (row.kind, row.value)) flags (listed_key row)
      ∙ ap (option_map (λ (row : Listed). (row.kind, row.value))) own in
      sym (ap (λ (o : Option (Kind × Bool)). option_map_or (λ (f : Kind × Bool). is_read_write f.0) o false) got) ∙ may (listed_key row) v is

  values_sound : IsSound files dir (recorded e) (Override e.override_slot override.FlagVal)
  values_sound other lists = subst (HasBytes files (path dir e.name (Override e.override_slot override.FlagVal)) 2 e.name IsValue) (same_flags other lists) (record {
    bytes = overrides.values;
    there = overrides.values_stand;
    hold = record {
      parts = overrides.values_are.parts;
      are = overrides.values_are.are;
      container_is = overrides.values_are.container;
      count = overrides.values_are.count;
      each = λ k d within. subst (λ (n : ℕ). n ≤ 1) (sym (overrides.values_are.each k d within)) (bit_small _);
    };
  })

  info_over : (rw_kind : Bool) (released : Bool) (o : Option Bool) (byte value : ℕ) → (IsSome o → IsTrue rw_kind) → byte ≡ 2 * bit rw_kind + bit (is_some o) → value ≡ bit (unwrap_or o released)
      → ((byte ≡ 2 * bit rw_kind) ⊎ (IsTrue rw_kind × (byte ≡ 3))) × ((byte ≡ 3 → ⊥) → value ≡ bit released)
  info_over rw_kind released None byte value may is v = (inl (omega (arith, is)), λ other. v)
  info_over true released (Some b) byte value may is v = (inr (refl, omega (arith, is)), λ other. absurd (other (omega (arith, is))))
  info_over false released (Some b) byte value may is v = absurd (true≢false (sym (may refl)))

  infos_sound : IsSound files dir (recorded e) (Override e.override_slot override.FlagInfo)
  infos_sound other lists values =
      let same = same_flags other lists in
      let bytes = one_file _ overrides.values values.bytes overrides.values_stand values.there in
      let parts : overrides.values_are.parts ≡ values.hold.parts =
      one_list_file 2 (lit< tt) values.bytes overrides.values_are.parts values.hold.parts (subst (λ (b : List ℕ). IsListFile 2 b overrides.values_are.parts) bytes overrides.values_are.are) values.hold.are in
      subst (HasBytes files (path dir e.name (Override e.override_slot override.FlagInfo)) 3 e.name (IsInfoOver values.hold.parts.bytes)) same (record {
        bytes = overrides.infos;
        there = overrides.infos_stand;
        hold = record {
          parts = overrides.infos_are.parts;
          are = overrides.infos_are.are;
          container_is = overrides.infos_are.container;
          count = overrides.infos_are.count;
          each = λ k d within.
              let row = get_or flags k d in
              let value : slice_index values.hold.parts.bytes row.index ≡ server_value e.container.server row =
              ap (λ (p : ListParts). slice_index p.bytes row.index) (sym parts) ∙ overrides.values_are.each k d within in
              let both = info_over (is_read_write row.kind) row.value (get e.container.server (listed_key row)) _ _
              (writable e.container.server valid.server k d within (get e.container.server (listed_key row)) refl) (overrides.infos_are.each k d within) value in
              record { lawful = both.0; value = both.1 };
        };
      })

  locals_sound : IsSound files dir (recorded e) (Override e.override_slot override.Local)
  locals_sound other lists = subst (HasLocals files (path dir e.name (Override e.override_slot override.Local))) (same_flags other lists) (record {
    bytes = overrides.locals;
    there = overrides.locals_stand;
    hold = record {
      overrides = overrides.locals_are.overrides;
      spells = overrides.locals_are.spells;
      indexes = overrides.locals_are.indexes;
      writable = λ k d within some.
          let row = get_or flags k d in
          let at = overrides.locals_are.each k d within in
          writable e.container.local valid.local k d within (get e.container.local (listed_key row)) refl (subst IsSome at some);
    };
  })

  booted_sound : (slot : Option Slot) (boot : Option BootMap) → Booted files dir e.name slot boot
      → IsSound files dir (recorded e) Pointer × ((other : Slot) (file : FileType) → IsSound files dir (recorded e) (Boot other file))
  booted_sound None None booted =
      (λ bytes there. absurd (nothing_some (files (path dir e.name Pointer)) bytes booted there), λ other file there. absurd (nothing_some (files (path dir e.name Pointer)) (pointer_bytes other) booted there))
  booted_sound None (Some boot) booted = absurd booted
  booted_sound (Some slot) None booted = absurd booted
  booted_sound (Some slot) (Some boot) booted = (
    λ bytes there. (slot, one_file _ bytes (pointer_bytes slot) there booted.pointer),
    λ other file there.
        let same = pointer_is slot other (one_file _ (pointer_bytes slot) (pointer_bytes other) booted.pointer there) in
        subst (λ (s : Slot). IsSoundIn files (λ (f : FileType). path dir e.name (Boot s f)) purpose.Copy (λ (set : four.Files) (opened : Opened). opened.package_map.container ≡ e.name) file) same
        (set_sound files (λ (f : FileType). path dir e.name (Boot slot f)) purpose.Copy booted.set e.name (boot_release boot) (boot_notes boot) booted.stand booted.is_set
        (λ (set : four.Files) (opened : Opened). opened.package_map.container ≡ e.name) (λ opened name. name) file),
  )

-- each of a list, one by one
abbrev Each : {X : Type 0} → (X → Type 0) → List X → Type 0
Each P [] = ⊤
Each P (x ∷ xs) = P x × Each P xs

all_of : {X : Type 0} (P : X → Type 0) (xs : List X) → Each P xs → All P xs
all_of P [] each = All-nil P
all_of P (x ∷ xs) each = All-cons P x xs each.0 (all_of P xs each.1)

-- what is sound of each part is sound of all
pub whole : (P : Part → Type 0) (row : Recorded) → ((file : FileType) → P (Release row.release file)) → P (Override row.overrides override.FlagVal) → P (Override row.overrides override.FlagInfo)
    → P (Override row.overrides override.Local) → P Pointer → ((slot : Slot) (file : FileType) → P (Boot slot file)) → All P (parts_of row)
whole P row release values infos locals pointer boot =
    all_of P (parts_of row) (
      release image.PackageMap,
      (
        release image.FlagMap,
        (
          release image.FlagVal,
          (
            release image.FlagInfo,
            (
              values,
              (
                infos,
                (
                  locals,
                  (
                    pointer,
                    (
                      boot Zero image.PackageMap,
                      (
                        boot Zero image.FlagMap,
                        (
                          boot Zero image.FlagVal,
                          (
                            boot Zero image.FlagInfo,
                            (
                              boot One image.PackageMap,
                              (
                                boot One image.FlagMap,
                                (
                                  boot One image.FlagVal,
                                  (
                                    boot One image.FlagInfo,
                                    tt,
                                  ),
                                ),
                              ),
                            ),
                          ),
                        ),
                      ),
                    ),
                  ),
                ),
              ),
            ),
          ),
        ),
      ),
    )

pub held_whole : (files : Files) (dir : List ℕ) (e : Entry) → IsValidContainer e.container → Holds files dir e → IsWhole files dir (recorded e)
held_whole files dir e valid holds =
    let booted = booted_sound files dir e valid holds.release holds.overrides e.boot_slot e.container.boot holds.boot in
    whole (IsSound files dir (recorded e)) (recorded e) (release_sound files dir e valid holds.release holds.overrides) (values_sound files dir e valid holds.release holds.overrides)
    (infos_sound files dir e valid holds.release holds.overrides) (locals_sound files dir e valid holds.release holds.overrides) booted.0 booted.1

-- ---- the directory

pub all_whole : (files : Files) (dir : List ℕ) (es : List Entry) → All (λ (e : Entry). IsValidContainer e.container) es → All (Holds files dir) es → All (IsWhole files dir) (map recorded es)
all_whole files dir [] valid held = All-nil (IsWhole files dir)
all_whole files dir (e ∷ es) valid held =
    All-cons (IsWhole files dir) (recorded e) (map recorded es)
    (held_whole files dir e (All-head (λ (e : Entry). IsValidContainer e.container) e es valid) (All-head (Holds files dir) e es held))
    (all_whole files dir es (All-tail (λ (e : Entry). IsValidContainer e.container) e es valid) (All-tail (Holds files dir) e es held))

lie_undamaged : (files : Files) (dir name : List ℕ) (es : List Entry) → AreListed files dir es → AreRecords (map recorded es) → All (IsWhole files dir) (map recorded es) → IsDamaged files dir name → ⊥
lie_undamaged files dir name es (inl list) lawful each (inl fault) =
    fault.none (map recorded es) (record { spelled = one_file (files (path dir [] Records)) fault.bytes (records_bytes (map recorded es)) fault.there list; lawful = lawful })
lie_undamaged files dir name es (inr absent) lawful each (inl fault) = nothing_some (files (path dir [] Records)) fault.bytes absent.1 fault.there
lie_undamaged files dir name es (inl list) lawful each (inr at) =
    let bytes = one_file (files (path dir [] Records)) at.bytes (records_bytes (map recorded es)) at.there list in
    let rows = one_records at.bytes at.rows (map recorded es) at.spells (record { spelled = bytes; lawful = lawful }) in
    none_first (IsWhole files dir) at.rows at.row (subst (All (IsWhole files dir)) (sym rows) each) at.first_row
lie_undamaged files dir name es (inr absent) lawful each (inr at) = nothing_some (files (path dir [] Records)) at.bytes absent.1 at.there

-- files that stand for a state have no file at fault
pub stand_undamaged : (files : Files) (dir : List ℕ) (state : State) (name : List ℕ) → Stands files dir state → IsDamaged files dir name → ⊥
stand_undamaged files dir state name stands damaged =
    let valid = each_valid files dir stands.entries stands.lies.lawful (subst IsValid stands.state_is stands.valid) in
    lie_undamaged files dir name stands.entries stands.lies.listed stands.lies.lawful (all_whole files dir stands.entries valid stands.lies.each) damaged

-- one file is the first at fault at most
pub one_damaged : (files : Files) (dir a b : List ℕ) → IsDamaged files dir a → IsDamaged files dir b → a ≡ b
one_damaged files dir a b (inl p) (inl q) = p.name_is ∙ sym q.name_is
one_damaged files dir a b (inl p) (inr q) =
    absurd (p.none q.rows (subst (λ (bytes : List ℕ). SpellsRecords bytes q.rows) (one_file (files (path dir [] Records)) q.bytes p.bytes q.there p.there) q.spells))
one_damaged files dir a b (inr p) (inl q) =
    absurd (q.none p.rows (subst (λ (bytes : List ℕ). SpellsRecords bytes p.rows) (one_file (files (path dir [] Records)) p.bytes q.bytes p.there q.there) p.spells))
one_damaged files dir a b (inr p) (inr q) =
    let bytes = one_file (files (path dir [] Records)) q.bytes p.bytes q.there p.there in
    let rows = one_records p.bytes p.rows q.rows p.spells (subst (λ (b : List ℕ). SpellsRecords b q.rows) bytes q.spells) in
    let row = one_first (IsWhole files dir) p.rows p.row q.row p.first_row (subst (λ (rows : List Recorded). IsFirst (IsWhole files dir) rows q.row) (sym rows) q.first_row) in
    let part = one_first (IsSound files dir p.row) (parts_of p.row) p.part q.part p.first_part
    (subst (λ (row : Recorded). IsFirst (IsSound files dir row) (parts_of row) q.part) (sym row) q.first_part) in
    p.name_is ∙ (λ i. path dir (row i).name (part i)) ∙ sym q.name_is
