-- What the writing of one container's boot copy leaves: the other containers as they were, and that one with another
-- boot copy.
use Rattle.std.proofs.Common.{◌≡◌, ◌⊎◌, inl, inr, ℕ, zero, suc, ◌<◌, Bool, true, false, List, [], ◌∷◌, length, get_or, set, map, Option, Some, None, option_map, string_bytes, refl, sym, ap, subst, ◌∙◌, arith}
use Rattle.std.specs.Map.{update}
use Rattle.std.specs.Str.{bytes_eq}
use Rattle.std.specs.Prelude.{All, Contains, IsSomeAnd}
use Rattle.std.specs.FinMap.{get, insert}
use Rattle.std.proofs.lemmas.List.{get_or_default, get_or-set_other, get_or-set_same, length-set}
use Rattle.std.proofs.lemmas.List.Elements.{All-contains}
use Rattle.std.specs.Cmp.{tied_itself}
use Rattle.std.proofs.lemmas.Slice.Eq.{bytes_eq-Decides}
use Rattle.acfg_base.specs.Names.{IsContainer}
use Rattle.acfg_base.specs.Places.{AreInOrder}
use Rattle.acfg_base.proofs.Rows.{get-map_of, map_of-set, row_at-member}
use Rattle.acfg_commit.specs.declared.several.NewFile.{NewFile}
use Rattle.acfg_commit.specs.Written.{IsNameAmong, replaced, written}
use Rattle.acfg_commit.proofs.Files.{replaced_here, replaced_others, written_others}
use Rattle.acfg_device.specs.Left.{SameBut}
use Rattle.acfg_device.specs.Panel.{Files}
use Rattle.acfg_device.proofs.Naming.{update_apart, update_here}
use Rattle.acfg_images.specs.declared.fault.FileType.{FileType}
use Rattle.acfg_images.specs.declared.fault.FileType.TheVariants as image
use Rattle.acfg_images.specs.Files as four
use Rattle.acfg_model.specs.State.{BootMap, IsValid, IsValidContainer, name_cmp}
use Rattle.acfg_model.proofs.Kept.{IsValid-replaced, name_exact, name_total}
use Rattle.acfg_store.specs.declared.names.OverrideFile.TheVariants as override
use Rattle.acfg_store.specs.declared.names.Part.{Part}
use Rattle.acfg_store.specs.declared.names.Part.TheVariants.{Records, Release, Override, Pointer, NewPointer, Boot}
use Rattle.acfg_store.specs.declared.names.Slot.{Slot}
use Rattle.acfg_store.specs.declared.names.Slot.TheVariants.{Zero, One}
use Rattle.acfg_store.specs.BootPlans.{AreBootFiles, spare_slot, with_copy}
use Rattle.acfg_store.specs.declared.records.Recorded.{Recorded}
use Rattle.acfg_store.specs.Commits.{IsCommit, IsLayout}
use Rattle.acfg_store.specs.Names.{IsOfDirectory, path}
use Rattle.acfg_store.specs.Records.{AreRecords, pointer_bytes, records_bytes}
use Rattle.acfg_store.specs.Renewing.{IsCopyWith}
use Rattle.acfg_store.specs.Stands.{AreFiles, AreListed, Entry, Holds, HoldsBoot, IsUsed, entry_name, recorded, state_of}
use Rattle.acfg_store.proofs.Apart.{path_container, path_part}
use Rattle.acfg_store.proofs.Lying.{holds_frame, set_frame}
use Rattle.acfg_store.proofs.Unused.{entries_order, not_used, one_entry}

-- a slot that is written isn't named
spare_apart : (slot : Option Slot) → IsSomeAnd slot (λ named. spare_slot slot ≡ named) → ⊥
spare_apart None named = absurd named
spare_apart (Some Zero) named = cc
spare_apart (Some One) named = cc

module _ (dir : List ℕ) (name : List ℕ) (slot : Slot) (made : four.Files) (files : List NewFile) (are : AreBootFiles dir name slot made files) (first : Files) where
  -- a name among those of the files is that of a part of the slot
  abbrev IsSlotName : List ℕ → Type 0
  IsSlotName other = (file : FileType) × (other ≡ path dir name (Boot slot file))

  abbrev four_files : List NewFile
  four_files = are.package_map ∷ are.flag_map ∷ are.values ∷ are.infos ∷ []

  pub among : (other : List ℕ) → IsNameAmong files other → IsSlotName other
  among other (file, in_list, same) = at in_list.0 (subst (λ (list : List NewFile). in_list.0 < length list) are.are in_list.1) (ap (λ (list : List NewFile). get_or list in_list.0 file) (sym are.are) ∙ in_list.2)
    where
      at : (k : ℕ) → k < length four_files → get_or four_files k file ≡ file → IsSlotName other
      at zero within is = (image.PackageMap, same ∙ ap (λ (f : NewFile). string_bytes f.name) (sym is) ∙ are.package_map_is.named)
      at (suc zero) within is = (image.FlagMap, same ∙ ap (λ (f : NewFile). string_bytes f.name) (sym is) ∙ are.flag_map_is.named)
      at (suc (suc zero)) within is = (image.FlagVal, same ∙ ap (λ (f : NewFile). string_bytes f.name) (sym is) ∙ are.values_are.named)
      at (suc (suc (suc zero))) within is = (image.FlagInfo, same ∙ ap (λ (f : NewFile). string_bytes f.name) (sym is) ∙ are.infos_are.named)
      at (suc (suc (suc (suc k)))) within is = absurd (omega arith)

  -- what is written under a name
  abbrev put : Files → NewFile → Files
  put files file = update bytes_eq files (string_bytes file.name) (Some file.bytes.items)

  abbrev with_one : Files
  with_one = put first are.package_map

  abbrev with_two : Files
  with_two = put with_one are.flag_map

  abbrev with_three : Files
  with_three = put with_two are.values

  written_is : written files first ≡ put (put (put (put first are.package_map) are.flag_map) are.values) are.infos
  written_is = ap (λ (list : List NewFile). written list first) are.are

  here : (before : Files) (file : NewFile) (part : Part) (bytes : List ℕ) → string_bytes file.name ≡ path dir name part → file.bytes.items ≡ bytes → put before file (path dir name part) ≡ Some bytes
  here before file part bytes named is =
      ap (put before file) (sym named) ∙ update_here before (string_bytes file.name) (Some file.bytes.items) ∙ ap Some is

  past : (before : Files) (file : NewFile) (part other : Part) → string_bytes file.name ≡ path dir name other → (part ≡ other → ⊥) → put before file (path dir name part) ≡ before (path dir name part)
  past before file part other named apart =
      update_apart before (string_bytes file.name) (Some file.bytes.items) (path dir name part) (λ same. apart (path_part dir dir name name part other (same ∙ named)))

  -- the files of the slot hold the set
  stand_written : AreFiles (written files first) (λ (file : FileType). path dir name (Boot slot file)) made
  stand_written = record {
    package_map =
        ap (λ (f : Files). f (path dir name (Boot slot image.PackageMap))) written_is
        ∙ past with_three are.infos (Boot slot image.PackageMap) (Boot slot image.FlagInfo) are.infos_are.named (λ e. cc) ∙ past with_two are.values (Boot slot image.PackageMap) (Boot slot image.FlagVal) are.values_are.named (λ e. cc)
        ∙ past with_one are.flag_map (Boot slot image.PackageMap) (Boot slot image.FlagMap) are.flag_map_is.named (λ e. cc) ∙ here first are.package_map (Boot slot image.PackageMap) made.package_map are.package_map_is.named are.package_map_is.bytes_are;
    flag_map =
        ap (λ (f : Files). f (path dir name (Boot slot image.FlagMap))) written_is
        ∙ past with_three are.infos (Boot slot image.FlagMap) (Boot slot image.FlagInfo) are.infos_are.named (λ e. cc) ∙ past with_two are.values (Boot slot image.FlagMap) (Boot slot image.FlagVal) are.values_are.named (λ e. cc)
        ∙ here with_one are.flag_map (Boot slot image.FlagMap) made.flag_map are.flag_map_is.named are.flag_map_is.bytes_are;
    flag_val =
        ap (λ (f : Files). f (path dir name (Boot slot image.FlagVal))) written_is
        ∙ past with_three are.infos (Boot slot image.FlagVal) (Boot slot image.FlagInfo) are.infos_are.named (λ e. cc) ∙ here with_two are.values (Boot slot image.FlagVal) made.flag_val are.values_are.named are.values_are.bytes_are;
    flag_info =
        ap (λ (f : Files). f (path dir name (Boot slot image.FlagInfo))) written_is ∙ here with_three are.infos (Boot slot image.FlagInfo) made.flag_info are.infos_are.named are.infos_are.bytes_are;
  }

  abbrev pub new : Files
  new = replaced (path dir name NewPointer) (path dir name Pointer) (pointer_bytes slot) (written files first)

  -- other names keep their files
  abbrev IsChanged : List ℕ → Type 0
  IsChanged other = IsNameAmong files other ⊎ ((other ≡ path dir name NewPointer) ⊎ (other ≡ path dir name Pointer))

  pub new_others : SameBut IsChanged first new
  new_others other apart =
      replaced_others (path dir name NewPointer) (path dir name Pointer) (pointer_bytes slot) (written files first) other (λ e. apart (inr e))
      ∙ written_others files first other (λ e. apart (inl e))

  -- a part that isn't written
  abbrev IsSpare : Part → Type 0
  IsSpare part = ((file : FileType) → part ≡ Boot slot file → ⊥) × (part ≡ NewPointer → ⊥) × (part ≡ Pointer → ⊥)

  pub part_stays : (container : List ℕ) (part : Part) → IsSpare part → new (path dir container part) ≡ first (path dir container part)
  part_stays container part spare = new_others (path dir container part) changed
    where
      changed : IsChanged (path dir container part) → ⊥
      changed (inl is) = let slot_name = among (path dir container part) is in spare.0 slot_name.0 (path_part dir dir container name part (Boot slot slot_name.0) slot_name.1)
      changed (inr (inl is)) = spare.1 (path_part dir dir container name part NewPointer is)
      changed (inr (inr is)) = spare.2 (path_part dir dir container name part Pointer is)

  -- and all parts of another container
  pub other_stays : (container : List ℕ) → (container ≡ name → ⊥) → (part : Part) → new (path dir container part) ≡ first (path dir container part)
  other_stays container apart part = new_others (path dir container part) changed
    where
      with_part : (other : Part) → path dir container part ≡ path dir name other → ⊥
      with_part other same = let parts = path_part dir dir container name part other same in apart (path_container dir container name part (same ∙ ap (path dir name) (sym parts)))

      changed : IsChanged (path dir container part) → ⊥
      changed (inl is) = let slot_name = among (path dir container part) is in with_part (Boot slot slot_name.0) slot_name.1
      changed (inr (inl is)) = with_part NewPointer is
      changed (inr (inr is)) = with_part Pointer is

  pub stand_new : AreFiles new (λ (file : FileType). path dir name (Boot slot file)) made
  stand_new = set_frame (written files first) new dir (λ (file : FileType). path dir name (Boot slot file)) made (λ file.
      replaced_others (path dir name NewPointer) (path dir name Pointer) (pointer_bytes slot) (written files first) (path dir name (Boot slot file)) (λ e. apart file e)) stand_written
    where
      apart : (file : FileType) → ((path dir name (Boot slot file) ≡ path dir name NewPointer) ⊎ (path dir name (Boot slot file) ≡ path dir name Pointer)) → ⊥
      apart file (inl e) = let parts = path_part dir dir name name (Boot slot file) NewPointer e in cc
      apart file (inr e) = let parts = path_part dir dir name name (Boot slot file) Pointer e in cc

  pointer_new : new (path dir name Pointer) ≡ Some (pointer_bytes slot)
  pointer_new = replaced_here (path dir name NewPointer) (path dir name Pointer) (pointer_bytes slot) (written files first)

  -- the container is held with the boot copy
  pub holds_booted : (entry : Entry) (boot : BootMap) → entry.name ≡ name → slot ≡ spare_slot entry.boot_slot → Holds first dir entry → IsCopyWith made name boot → Holds new dir (with_copy entry boot)
  holds_booted entry boot named spare holds copy =
      let release = holds.release in
      let overrides = holds.overrides in
      record {
        release = record {
          set = release.set;
          notes = release.notes;
          stand = set_frame first new dir (λ (file : FileType). path dir entry.name (Release entry.release_slot file)) release.set
              (λ file. part_stays entry.name (Release entry.release_slot file) (λ f e. cc, λ e. cc, λ e. cc)) release.stand;
          is_set = release.is_set;
          digest = release.digest;
        };
        overrides = record {
          values = overrides.values;
          infos = overrides.infos;
          locals = overrides.locals;
          values_stand = part_stays entry.name (Override entry.override_slot override.FlagVal) (λ f e. cc, λ e. cc, λ e. cc) ∙ overrides.values_stand;
          infos_stand = part_stays entry.name (Override entry.override_slot override.FlagInfo) (λ f e. cc, λ e. cc, λ e. cc) ∙ overrides.infos_stand;
          locals_stand = part_stays entry.name (Override entry.override_slot override.Local) (λ f e. cc, λ e. cc, λ e. cc) ∙ overrides.locals_stand;
          values_are = overrides.values_are;
          infos_are = overrides.infos_are;
          locals_are = overrides.locals_are;
        };
        boot = subst (λ (s : Slot). HoldsBoot new dir entry.name s boot) spare
            (subst (λ (n : List ℕ). HoldsBoot new dir n slot boot) (sym named)
            (record { set = made; pointer = pointer_new; stand = stand_new; is_set = copy }));
      }

-- ---- the directory

pub recorded_set : (entries : List Entry) (at : ℕ) (one : Entry) (boot : BootMap) → at < length entries → one ≡ get_or entries at one → map recorded (set entries at (with_copy one boot)) ≡ map recorded entries
recorded_set [] at one boot within is = absurd (omega arith)
recorded_set (e ∷ es) zero one boot within is = ap (λ (r : Recorded). r ∷ map recorded es) (ap recorded is)
recorded_set (e ∷ es) (suc at) one boot within is = ap (λ (rest : List Recorded). recorded e ∷ rest) (recorded_set es at one boot (omega arith) is)

module _ (dir : List ℕ) (entries : List Entry) (first : Files) (layout : IsLayout first dir entries) (at : ℕ) (one : Entry) (within : at < length entries) (is : one ≡ get_or entries at one)
    (slot : Slot) (made : four.Files) (files : List NewFile) (are : AreBootFiles dir one.name slot made files) (spare : slot ≡ spare_slot one.boot_slot) (boot : BootMap) (copy : IsCopyWith made one.name boot) (valid : IsValidContainer (record one.container { boot = Some boot })) where
  abbrev one_later : Entry
  one_later = with_copy one boot

  abbrev later : List Entry
  later = set entries at one_later

  abbrev after : Files
  after = replaced (path dir one.name NewPointer) (path dir one.name Pointer) (pointer_bytes slot) (written files first)

  order : AreInOrder name_cmp entry_name entries
  order = entries_order entries layout.lies.lawful.order

  in_list : Contains entries one
  in_list = (at, within, sym is)

  there : get (state_of entries) one.name ≡ Some one.container
  there = get-map_of name_total entry_name (λ (e : Entry). e.container) entries one.name ∙ ap (option_map (λ (e : Entry). e.container)) (row_at-member name_total entry_name entries order one.name one in_list (tied_itself name_total one.name))

  same_list : map recorded later ≡ map recorded entries
  same_list = recorded_set entries at one boot within is

  lawful_later : AreRecords (map recorded later)
  lawful_later = subst AreRecords (sym same_list) layout.lies.lawful

  at_place : (d : Entry) → get_or later at d ≡ one_later
  at_place d = get_or-set_same entries at one_later d within

  state_later : state_of later ≡ insert (state_of entries) one.name one_later.container
  state_later = map_of-set name_total entry_name name_exact entries order at one_later within
      (ap entry_name (get_or_default entries at one_later one within ∙ sym is)) (λ (e : Entry). e.container)

  listed_later : AreListed first dir entries → AreListed after dir later
  listed_later (inl e) = inl (part_stays dir one.name slot made files are first [] Records (λ f e. cc, λ e. cc, λ e. cc) ∙ e ∙ ap (λ (rows : List Recorded). Some (records_bytes rows)) (sym same_list))
  listed_later (inr e) = absurd (omega (arith, within, ap length e.0))

  held : All (Holds after dir) later
  held k d inside = go (get_or later k d) refl (bytes_eq (get_or later k d).name one.name) refl
    where
      order_later : AreInOrder name_cmp entry_name later
      order_later = entries_order later lawful_later.order

      len : length later ≡ length entries
      len = length-set entries at one_later

      true_not_false : true ≡ false → ⊥
      true_not_false e = cc

      go : (other : Entry) → other ≡ get_or later k d → (b : Bool) → bytes_eq other.name one.name ≡ b → Holds after dir other
      go other at_k true same =
          let one_is : other ≡ one_later = one_entry later order_later other one_later
          (k, inside, get_or_default later k other d inside ∙ sym at_k) (at, omega (arith, len, within), at_place one_later) ((bytes_eq-Decides other.name one.name).0 same) in
          subst (Holds after dir) (sym one_is) (holds_booted dir one.name slot made files are first one boot refl spare (All-contains (Holds first dir) entries one layout.lies.each in_list) copy)
      go other at_k false apart =
          let names : other.name ≡ one.name → ⊥ = λ e. true_not_false (sym ((bytes_eq-Decides other.name one.name).1 e) ∙ apart) in
          let places : k ≡ at → ⊥ = λ e. names (ap entry_name (at_k ∙ ap (λ (n : ℕ). get_or later n d) e ∙ at_place d)) in
          let same : other ≡ get_or entries k d = at_k ∙ get_or-set_other entries at k one_later d places in
          holds_frame first after dir other (λ part uses. other_stays dir one.name slot made files are first other.name names part)
          (subst (Holds first dir) (sym same) (layout.lies.each k d (omega (arith, len, inside))))

  valid_later : IsValid (state_of later)
  valid_later = subst IsValid (sym state_later) (IsValid-replaced (state_of entries) layout.valid one.name one.container one_later.container there valid)

  pub layout_later : IsLayout (replaced (path dir one.name NewPointer) (path dir one.name Pointer) (pointer_bytes slot) (written files first)) dir (set entries at (with_copy one boot))
  layout_later = record {
    lies = record { listed = listed_later layout.lies.listed; lawful = lawful_later; each = held };
    valid = valid_later;
  }

  -- it is one commit
  pub commit_booted : IsCommit dir entries (set entries at (with_copy one boot)) (λ other. IsNameAmong files other ⊎ (other ≡ path dir one.name NewPointer)) first
      (replaced (path dir one.name NewPointer) (path dir one.name Pointer) (pointer_bytes slot) (written files first))
  commit_booted = record {
    before = layout;
    after = layout_later;
    free = free;
    own = own;
    others = λ other foreign. new_others dir one.name slot made files are first other (λ changed. foreign (changed_own other changed));
  }
    where
      container : IsContainer one.name
      container = layout.valid.names one.name one.container there

      free : (other : List ℕ) → (IsNameAmong files other ⊎ (other ≡ path dir one.name NewPointer)) → IsUsed dir entries other → ⊥
      free other (inl written) used =
          let slot_name = among dir one.name slot made files are first other written in
          not_used dir entries order one in_list (Boot slot slot_name.0) (λ e. cc) (λ uses. spare_apart one.boot_slot (subst (λ (s : Slot). IsSomeAnd one.boot_slot (λ named. s ≡ named)) spare uses)) (subst (IsUsed dir entries) slot_name.1 used)
      free other (inr same) used = not_used dir entries order one in_list NewPointer (λ e. cc) (λ uses. uses) (subst (IsUsed dir entries) same used)

      own : (other : List ℕ) → (IsNameAmong files other ⊎ (other ≡ path dir one.name NewPointer)) → IsOfDirectory dir other
      own other (inl written) = let slot_name = among dir one.name slot made files are first other written in record { container = one.name; part = Boot slot slot_name.0; lawful = container; spelled = slot_name.1 }
      own other (inr same) = record { container = one.name; part = NewPointer; lawful = container; spelled = same }

      changed_own : (other : List ℕ) → (IsNameAmong files other ⊎ ((other ≡ path dir one.name NewPointer) ⊎ (other ≡ path dir one.name Pointer))) → IsOfDirectory dir other
      changed_own other (inl written) = own other (inl written)
      changed_own other (inr (inl same)) = own other (inr same)
      changed_own other (inr (inr same)) = record { container = one.name; part = Pointer; lawful = container; spelled = same }
