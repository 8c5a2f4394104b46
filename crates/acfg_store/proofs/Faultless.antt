-- Files in which nothing is at fault stand for a state.
use Rattle.std.proofs.Common.{◌≡◌, ℕ, suc, ◌+◌, Bool, List, [], ◌∷◌, map, length, Option, Some, None, option_map, inl, inr, refl, sym, ap, ◌∙◌, subst, arith, lit<, true≢false}
use Rattle.std.specs.Prelude.{All, Contains, IsSome, Ok, Err, Result}
use Rattle.std.specs.FinMap.{empty}
use Rattle.std.proofs.lemmas.List.{length-drop, length-map}
use Rattle.std.proofs.lemmas.List.Elements.{All-cons, All-contains, All-head, All-map, All-nil, All-tail}
use Rattle.acfg_base.specs.declared.releases.Entry.{Entry}
use Rattle.acfg_base.specs.declared.releases.Kind.{Kind}
use Rattle.acfg_base.specs.Places.{row_at}
use Rattle.acfg_base.specs.Release.{HasLawfulKeys, IsKey, Key, entries_of, key_cmp, key_of}
use Rattle.acfg_base.proofs.Keys.{key_exact, key_total}
use Rattle.acfg_base.proofs.Rows.{get-map_of, row_at-found}
use Rattle.acfg_device.specs.Panel.{Files}
use Rattle.acfg_images.specs.declared.fault.FileType.{FileType}
use Rattle.acfg_images.specs.declared.fault.FileType.TheVariants.{PackageMap, FlagMap, FlagVal, FlagInfo}
use Rattle.acfg_images.specs.declared.fault.ImageFault.{ImageFault}
use Rattle.acfg_images.specs.declared.purpose.Use.{Use}
use Rattle.acfg_images.specs.declared.purpose.Use.TheVariants as purpose
use Rattle.acfg_images.specs.Faults.{HasNoFault, Opened, checked, flags_in, parts_in}
use Rattle.acfg_images.specs.Files as four
use Rattle.acfg_images.specs.Laws.{AreBytes}
use Rattle.acfg_images.specs.Set.{IsSetOf, Listed, SetParts, listed, listed_flag, listed_key, listing, release_in}
use Rattle.acfg_images.proofs.Law.{checked_same, is_set_of}
use Rattle.acfg_lookup.proofs.Sound.{sound}
use Rattle.acfg_images.proofs.Listed.{listable}
use Rattle.acfg_lookup.specs.Lookup.{flag_found}
use Rattle.acfg_model.specs.declared.containers.FlagState.{FlagState}
use Rattle.acfg_model.specs.FlagStates.{container_in}
use Rattle.acfg_model.specs.State.{BootMap, IsValidContainer, State}
use Rattle.acfg_model.specs.Views.{boot_of}
use Rattle.acfg_store.specs.declared.names.OverrideFile.{OverrideFile}
use Rattle.acfg_store.specs.declared.names.OverrideFile.TheVariants as override
use Rattle.acfg_store.specs.declared.names.Part.TheVariants.{Records, Override, Pointer, Boot}
use Rattle.acfg_store.specs.declared.names.Slot.{Slot}
use Rattle.acfg_store.specs.declared.names.Slot.TheVariants.{Zero, One}
use Rattle.acfg_store.specs.declared.placed.Placed.{Placed}
use Rattle.acfg_store.specs.declared.records.Recorded.{Recorded}
use Rattle.acfg_store.specs.Copies.{IsCopyOf, IsOfContainer}
use Rattle.acfg_store.specs.Damage.{HoldBytes, IsDamaged, IsElsewhere, IsFirst, IsItsRelease, IsSound, IsSoundIn, IsWhole, blamed, boot_name, override_path, parts_of, release_name}
use Rattle.acfg_store.specs.Judged.{IsMeantSet}
use Rattle.acfg_store.specs.Kept.{AreRowsOf}
use Rattle.acfg_store.specs.Names.{path}
use Rattle.acfg_store.specs.Over.{IsSoundOver}
use Rattle.acfg_store.specs.Placed.{AreFlagsOf, IsTold, boot_row, placed_key, state_row}
use Rattle.acfg_store.specs.Records.{IsRecorded, SpellsRecords, pointer_bytes}
use Rattle.acfg_store.specs.Stands as layout
use Rattle.acfg_store.specs.Stands.{AreFiles, Holds, Stands, recorded, state_of}
use Rattle.acfg_store.proofs.Faulting.{first_not, over_back}
use Rattle.acfg_store.proofs.Keeping.{IsBootValid, copy_set, copy_valid, rows_held, rows_valid, unbooted}
use Rattle.acfg_store.proofs.Nothing.{nothing_stands}
use Rattle.acfg_store.proofs.Opened.{layout_stands, listed_layout}
use Rattle.acfg_store.proofs.Placing.{flag_count, flags_found, is_there}
use Rattle.acfg_views.specs.Fields.{IsBytes}
use Rattle.acfg_views.specs.Layout.{flag_info_type, flag_val_type}
use Rattle.acfg_views.specs.Reading.{IsOpenList, OpenList, opened_list}
use Rattle.acfg_views.proofs.FileFacts.{opened_list-offsets}

some_value : {A : Type 0} (o : Option A) → IsSome o → (v : A) × (o ≡ Some v)
some_value None some = absurd (true≢false (sym some))
some_value (Some v) some = (v, refl)

-- ---- a slot of four files

module _ (files : Files) (fits : HoldBytes files) (name_of : FileType → List ℕ) (use_of : Use) (IsMeant : four.Files → Opened → Type 0) (sound : (file : FileType) → IsSoundIn files name_of use_of IsMeant file) where
  there : (file : FileType) → (v : List ℕ) × (files (name_of file) ≡ Some v)
  there file = some_value (files (name_of file)) (sound file).there

  whole_set : four.Files
  whole_set = record { package_map = (there PackageMap).0; flag_map = (there FlagMap).0; flag_val = (there FlagVal).0; flag_info = (there FlagInfo).0 }

  whole_stand : AreFiles files name_of whole_set
  unfolding whole_set
  whole_stand = record { package_map = (there PackageMap).1; flag_map = (there FlagMap).1; flag_val = (there FlagVal).1; flag_info = (there FlagInfo).1 }

  whole_bytes : AreBytes whole_set
  unfolding whole_set
  whole_bytes = record {
    package_map = fits (name_of PackageMap) (there PackageMap).0 (there PackageMap).1;
    flag_map = fits (name_of FlagMap) (there FlagMap).0 (there FlagMap).1;
    flag_val = fits (name_of FlagVal) (there FlagVal).0 (there FlagVal).1;
    flag_info = fits (name_of FlagInfo) (there FlagInfo).0 (there FlagInfo).1;
  }

  whole_meant : (opened : Opened) × IsMeantSet use_of (IsMeant whole_set) whole_set opened
  whole_meant = go (checked use_of whole_set) refl
    where
      go : (r : Result Opened ImageFault) → checked use_of whole_set ≡ r → (opened : Opened) × IsMeantSet use_of (IsMeant whole_set) whole_set opened
      go (Ok opened) e = (
        opened,
        record {
          passes = e;
          is_set = is_set_of use_of whole_set opened whole_bytes e;
          meant = (subst (IsElsewhere PackageMap (IsMeant whole_set)) e ((sound PackageMap).clear whole_set whole_stand)).meant refl;
        },
      )
      go (Err why) e = absurd ((subst (IsElsewhere (blamed why) (IsMeant whole_set)) e ((sound (blamed why)).clear whole_set whole_stand)) refl)

-- ---- the flags of a set

module _ (use_of : Use) (set : four.Files) (opened : Opened) (passes : checked use_of set ≡ Ok opened) (is_set : IsSetOf set use_of (parts_in opened)) (bytes : AreBytes set) where
  abbrev parts : SetParts
  parts = parts_in opened

  placed_from : (all es : List Entry) → all ≡ entries_of (release_in parts) → ((e : Entry) → Contains es e → Contains all e)
      → (flags : List Placed) × (map placed_key flags ≡ map key_of es) × All (IsTold parts) flags
  placed_from all [] same among = ([], refl, All-nil (IsTold parts))
  placed_from all (e ∷ es) same among =
      let rest = placed_from all es same (λ x in_list. among x (behind x in_list)) in
      go (listed parts e.package e.flag) refl rest
    where
      behind : (x : Entry) → Contains es x → Contains (e ∷ es) x
      behind x (k, within, at) = (suc k, omega (arith, within), at)

      go : (found : Option Listed) → listed parts e.package e.flag ≡ found → (flags : List Placed) × (map placed_key flags ≡ map key_of es) × All (IsTold parts) flags
          → (flags : List Placed) × (map placed_key flags ≡ map key_of (e ∷ es)) × All (IsTold parts) flags
      go None none rest = absurd (is_there parts e (subst (λ (es : List Entry). Contains es e) same (among e (0, omega arith, refl))) (sym (ap (option_map flag_found) none)))
      go (Some row) some rest =
          let x : Placed = record { «package» = e.package; flag = e.flag; found = flag_found row } in
          (x ∷ rest.0, ap (λ (ks : List Key). key_of e ∷ ks) rest.1, All-cons (IsTold parts) x rest.0 (sym (ap (option_map flag_found) some)) rest.2)

  pub all_flags : (flags : List Placed) × AreFlagsOf parts flags
  all_flags =
      let made = placed_from (entries_of (release_in parts)) (entries_of (release_in parts)) refl (λ e in_list. in_list) in
      (made.0, flags_found parts made.0 made.1 made.2 use_of set is_set)

  -- their keys are lawful
  pub keys_lawful : HasLawfulKeys (release_in parts)
  keys_lawful = record { each = λ key facts got. go key (row_at key_cmp listed_key (listing parts) key) refl (sym (get-map_of key_total listed_key kind_value (listing parts) key) ∙ got) }
    where
      kind_value : Listed → Kind × Bool
      kind_value row = (row.kind, row.value)

      no_fault : HasNoFault opened
      no_fault = (use_of, subst (λ (s : four.Files). checked use_of s ≡ Ok opened) (sym (checked_same use_of set opened passes)) passes)

      counted : opened.values.count ≡ length (flags_in opened)
      counted = (sound opened no_fault).values ∙ flag_count opened no_fault ∙ length-map (flags_in opened) (listed_flag parts)

      named : All (λ (row : Listed). IsKey (listed_key row)) (listing parts)
      named = All-map (λ (row : Listed). IsKey (listed_key row)) (listed_flag parts) (flags_in opened) (λ k d within.
          let ends : opened.values.first_byte + opened.values.count ≡ length opened.values.file =
          omega (arith, counted, within, is_set.agree.value_count, length-drop opened.values.first_byte opened.values.file) in
          let is = listable use_of set opened is_set ends k d within in
          record { «package» = is.package; flag = is.name })

      go : {facts : Kind × Bool} (key : Key) (r : Option Listed) → row_at key_cmp listed_key (listing parts) key ≡ r → option_map kind_value r ≡ Some facts → IsKey key
      go key None is e = absurd cc
      go key (Some row) is e =
          let found = row_at-found key_total listed_key (listing parts) key row is in
          subst IsKey (key_exact (listed_key row) key found.1) (All-contains (λ (row : Listed). IsKey (listed_key row)) (listing parts) row named found.0)

-- ---- a container

module _ (files : Files) (fits : HoldBytes files) (dir : List ℕ) (row : Recorded) (lawful : IsRecorded row) (whole : IsWhole files dir row) where
  release_sound : (file : FileType) → IsSoundIn files (release_name files dir row) purpose.Release (IsItsRelease row) file
  release_sound PackageMap = whole 0 Pointer (lit< tt)
  release_sound FlagMap = whole 1 Pointer (lit< tt)
  release_sound FlagVal = whole 2 Pointer (lit< tt)
  release_sound FlagInfo = whole 3 Pointer (lit< tt)

  boot_sound : (slot : Slot) (file : FileType) → IsSound files dir row (Boot slot file)
  boot_sound Zero PackageMap = whole 8 Pointer (lit< tt)
  boot_sound Zero FlagMap = whole 9 Pointer (lit< tt)
  boot_sound Zero FlagVal = whole 10 Pointer (lit< tt)
  boot_sound Zero FlagInfo = whole 11 Pointer (lit< tt)
  boot_sound One PackageMap = whole 12 Pointer (lit< tt)
  boot_sound One FlagMap = whole 13 Pointer (lit< tt)
  boot_sound One FlagVal = whole 14 Pointer (lit< tt)
  boot_sound One FlagInfo = whole 15 Pointer (lit< tt)

  set : four.Files
  set = whole_set files fits (release_name files dir row) purpose.Release (IsItsRelease row) release_sound

  stand : AreFiles files (release_name files dir row) set
  unfolding set
  stand = whole_stand files fits (release_name files dir row) purpose.Release (IsItsRelease row) release_sound

  bytes : AreBytes set
  unfolding set
  bytes = whole_bytes files fits (release_name files dir row) purpose.Release (IsItsRelease row) release_sound

  meant : (opened : Opened) × IsMeantSet purpose.Release (IsItsRelease row set) set opened
  unfolding set
  meant = whole_meant files fits (release_name files dir row) purpose.Release (IsItsRelease row) release_sound

  abbrev held : OverrideFile → Option (List ℕ)
  held file = files (override_path files dir row file)

  module _ (opened : Opened) (is : IsMeantSet purpose.Release (IsItsRelease row set) set opened) (flags : List Placed) (are : AreFlagsOf (parts_in opened) flags) where
    over : (file : OverrideFile) → IsSound files dir row (Override row.overrides file) → IsSoundOver row.name (length (listing (parts_in opened))) flags held file
    over = over_back files dir row set stand opened is flags are (length (listing (parts_in opened))) refl held (record { values = refl; infos = refl; locals = refl }) (λ file bytes there. fits (override_path files dir row file) bytes there)

    opens : (file_type : ℕ) (bytes : List ℕ) (list : OpenList) → IsBytes bytes → opened_list file_type bytes ≡ Ok list → IsOpenList file_type list
    opens file_type bytes list is-bytes e =
        let same = (opened_list-offsets file_type bytes list e).file in
        record { opened = subst (λ (b : List ℕ). opened_list file_type b ≡ Ok list) (sym same) e; bytes = subst IsBytes (sym same) is-bytes }

    rows : (rows : List FlagState) × AreRowsOf row set held rows
    rows =
        let values = over override.FlagVal (whole 4 Pointer (lit< tt)) in
        let infos = over override.FlagInfo (whole 5 Pointer (lit< tt)) values.0 values.1 in
        let locals = over override.Local (whole 6 Pointer (lit< tt)) in (
          map (state_row values.0 infos.0 locals.0) flags,
          record {
            opened = opened;
            is = is;
            flags = flags;
            are = are;
            keys = keys_lawful purpose.Release set opened is.passes is.is_set bytes;
            count = length (listing (parts_in opened));
            count_is = refl;
            over = record {
              values = values.0;
              infos = infos.0;
              locals = locals.0;
              has_values = values.1;
              has_infos = infos.1;
              has_locals = locals.1;
              values_open = opens flag_val_type values.1.bytes values.0 (fits (override_path files dir row override.FlagVal) values.1.bytes values.1.there) values.1.is.opened;
              infos_open = opens flag_info_type infos.1.bytes infos.0 (fits (override_path files dir row override.FlagInfo) infos.1.bytes infos.1.there) infos.1.is.opened;
              rows_are = refl;
            };
          },
        )

  -- a boot copy as it lies in the directory
  record Copy : Type 0 where
    slot : Option Slot
    boot : Option BootMap
    valid : IsBootValid boot
    booted : layout.Booted files dir row.name slot boot

  copy : Copy
  copy = go (files (path dir row.name Pointer)) refl
    where
      copied : (slot : Slot) → files (path dir row.name Pointer) ≡ Some (pointer_bytes slot) → Copy
      copied slot pointer =
          let name_of = boot_name files dir row slot in
          let sound : (file : FileType) → IsSoundIn files name_of purpose.Copy (λ s. IsOfContainer row.name) file = λ file. boot_sound slot file pointer in
          let found = whole_meant files fits name_of purpose.Copy (λ s. IsOfContainer row.name) sound in
          let s = whole_set files fits name_of purpose.Copy (λ s. IsOfContainer row.name) sound in
          let s-bytes = whole_bytes files fits name_of purpose.Copy (λ s. IsOfContainer row.name) sound in
          let flags = all_flags purpose.Copy s found.0 found.1.passes found.1.is_set s-bytes in
          let of : IsCopyOf row.name s (map boot_row flags.0) = record {
            opened = found.0;
            is = found.1;
            flags = flags.0;
            are = flags.1;
            keys = keys_lawful purpose.Copy s found.0 found.1.passes found.1.is_set s-bytes;
            copy_is = refl;
          } in
          record {
            slot = Some slot;
            boot = Some (boot_of (map boot_row flags.0));
            valid = copy_valid row.name s (map boot_row flags.0) of;
            booted = record { set = s; pointer = pointer; stand = whole_stand files fits name_of purpose.Copy (λ s. IsOfContainer row.name) sound; is_set = copy_set row.name s (map boot_row flags.0) of };
          }

      go : (found : Option (List ℕ)) → files (path dir row.name Pointer) ≡ found → Copy
      go None none = record { slot = None; boot = None; valid = unbooted; booted = none }
      go (Some bytes) some =
          let named : (slot : Slot) × (bytes ≡ pointer_bytes slot) = (whole 7 Pointer (lit< tt)) bytes some in
          copied named.0 (some ∙ ap (λ (b : List ℕ). Some b) named.1)

  record WholeEntry : Type 0 where
    entry : layout.Entry
    listed : recorded entry ≡ row
    valid : IsValidContainer entry.container
    holds : Holds files dir entry

  -- the container that lies in the directory
  whole_entry : WholeEntry
  whole_entry =
      let found = meant in
      let flags = all_flags purpose.Release set found.0 found.1.passes found.1.is_set bytes in
      let made = rows found.0 found.1 flags.0 flags.1 in
      let boot = copy in
      record {
        entry = record { name = row.name; release_slot = row.release; override_slot = row.overrides; boot_slot = boot.slot; container = container_in row.digest made.0 boot.boot };
        listed = refl;
        valid = rows_valid row set held made.0 made.1 lawful.digest boot.boot boot.valid;
        holds = rows_held row set held made.0 made.1 files dir stand (record { values = refl; infos = refl; locals = refl }) boot.slot boot.boot boot.booted;
      }

-- ---- the directory

record Entries (files : Files) (dir : List ℕ) (rows : List Recorded) : Type 0 where
  entries : List layout.Entry
  listed : map recorded entries ≡ rows
  valid : All (λ (e : layout.Entry). IsValidContainer e.container) entries
  held : All (Holds files dir) entries

whole_entries : (files : Files) → HoldBytes files → (dir : List ℕ) (rows : List Recorded) → All IsRecorded rows → All (IsWhole files dir) rows → Entries files dir rows
whole_entries files fits dir [] lawful whole = record { entries = []; listed = refl; valid = All-nil (λ (e : layout.Entry). IsValidContainer e.container); held = All-nil (Holds files dir) }
whole_entries files fits dir (row ∷ rows) lawful whole =
    let one = whole_entry files fits dir row (All-head IsRecorded row rows lawful) (All-head (IsWhole files dir) row rows whole) in
    let rest = whole_entries files fits dir rows (All-tail IsRecorded row rows lawful) (All-tail (IsWhole files dir) row rows whole) in
    record {
      entries = one.entry ∷ rest.entries;
      listed = λ i. one.listed i ∷ rest.listed i;
      valid = All-cons (λ (e : layout.Entry). IsValidContainer e.container) one.entry rest.entries one.valid rest.valid;
      held = All-cons (Holds files dir) one.entry rest.entries one.holds rest.held;
    }

-- all are sound, or there is a first one that isn't
all_or_first : {X : Type 0} (P : X → Type 0) (xs : List X) → (All P xs → ⊥) → ((x : X) → IsFirst P xs x → ⊥) → ⊥
all_or_first P [] not_all no_first = not_all (All-nil P)
all_or_first P (x ∷ xs) not_all no_first =
    no_first x (inl (refl, λ sound. all_or_first P xs (λ all. not_all (All-cons P x xs sound all)) (λ y first. no_first y (inr (sound, first)))))

-- files that stand for no state have a first file at fault
pub some_damage : (files : Files) → HoldBytes files → (dir : List ℕ) → ((state : State) → Stands files dir state → ⊥) → ((name : List ℕ) → IsDamaged files dir name → ⊥) → ⊥
some_damage files fits dir no_state undamaged = go (files (path dir [] Records)) refl
  where
    listed : (bytes : List ℕ) → files (path dir [] Records) ≡ Some bytes → (rows : List Recorded) → SpellsRecords bytes rows → ⊥
    listed bytes there rows spells =
        all_or_first (IsWhole files dir) rows
        (λ whole.
        let found = whole_entries files fits dir rows spells.lawful.each whole in
        no_state (state_of found.entries) (layout_stands files dir found.entries (listed_layout files dir found.entries rows bytes there spells found.listed found.valid found.held)))
        (λ row first_row.
        all_or_first (IsSound files dir row) (parts_of row) (λ whole. first_not (IsWhole files dir) rows row first_row whole)
        (λ part first_part. undamaged (path dir row.name part) (inr (record {
          bytes = bytes;
          there = there;
          rows = rows;
          spells = spells;
          row = row;
          first_row = first_row;
          part = part;
          first_part = first_part;
          name_is = refl;
        }))))

    go : (found : Option (List ℕ)) → files (path dir [] Records) ≡ found → ⊥
    go None none = no_state empty (nothing_stands files dir none)
    go (Some bytes) some = undamaged (path dir [] Records) (inl (record { bytes = bytes; there = some; none = listed bytes some; name_is = refl }))
