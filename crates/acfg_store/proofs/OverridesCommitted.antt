-- The files that a change of overrides writes: with them the directory holds the containers with the one changed, and
-- nothing that it used before has changed until the list is renamed.
use Rattle.std.proofs.Common.{◌≡◌, ◌⊎◌, ℕ, false, zero, suc, ◌<◌, List, [], ◌∷◌, map, length, get_or, set, Option, Some, None, inl, inr, refl, sym, ap, subst, ◌∙◌, arith, string_bytes}
use Rattle.std.specs.Prelude.{All, Contains}
use Rattle.std.specs.Map.{update}
use Rattle.std.specs.Str.{bytes_eq}
use Rattle.std.proofs.lemmas.Bool.{cases_eq}
use Rattle.std.proofs.lemmas.List.{get_or-map, get_or-set_other, get_or-set_same, length-map, length-set, map-set}
use Rattle.std.proofs.lemmas.List.Elements.{All-contains, All-get_or, All-set}
use Rattle.acfg_base.specs.Names.{IsContainer}
use Rattle.acfg_commit.specs.declared.several.NewFile.{NewFile}
use Rattle.acfg_commit.specs.Written.{IsNameAmong, replaced, written}
use Rattle.acfg_commit.proofs.Files.{replaced_here, replaced_others, written_others}
use Rattle.acfg_device.specs.Account.{Account}
use Rattle.acfg_device.specs.Disk.{IsSettled, told}
use Rattle.acfg_device.specs.Left.{IsEither, LeavesSince}
use Rattle.acfg_device.specs.Panel.{Files}
use Rattle.acfg_device.proofs.Naming.{update_apart, update_here}
use Rattle.acfg_device.proofs.Runs.{at_rest}
use Rattle.acfg_images.specs.declared.fault.FileType.{FileType}
use Rattle.acfg_images.specs.declared.fault.FileType.TheVariants as image
use Rattle.acfg_images.specs.declared.purpose.Use.TheVariants as purpose
use Rattle.acfg_images.specs.Files as four
use Rattle.acfg_images.specs.Set.{IsSetOf, SetParts, listing}
use Rattle.acfg_model.specs.declared.changes.Change.{Change}
use Rattle.acfg_model.specs.declared.requests.Reply.{Reply}
use Rattle.acfg_model.specs.State.{State}
use Rattle.acfg_model.specs.Step.{change_step}
use Rattle.acfg_store.specs.Applied.{IsBetween, IsOpen, LeavesBetween, state_in}
use Rattle.acfg_store.specs.declared.containers.Kept.{Kept}
use Rattle.acfg_store.specs.declared.names.OverrideFile.{OverrideFile}
use Rattle.acfg_store.specs.declared.names.OverrideFile.TheVariants as override
use Rattle.acfg_store.specs.declared.names.Part.{Part}
use Rattle.acfg_store.specs.declared.names.Part.TheVariants.{Boot, NewRecords, Override, Records, Release}
use Rattle.acfg_store.specs.declared.names.Slot.{Slot}
use Rattle.acfg_store.specs.declared.names.Slot.TheVariants.{Zero, One}
use Rattle.acfg_store.specs.declared.planning.Plan.{Plan}
use Rattle.acfg_store.specs.Commits.{ChangesOne, IsCommit, IsLayout, LeavesState, IsEitherState}
use Rattle.acfg_store.specs.Kept.{entry_of, sets_of}
use Rattle.acfg_store.specs.Names.{IsOfDirectory, path}
use Rattle.acfg_store.specs.Opening.{AreKept, KeepsFiles, all_sets_of, entries_of}
use Rattle.acfg_store.specs.Planned.{AreSlotFiles, IsChangedAt, IsPlanned}
use Rattle.acfg_store.specs.Records.{IsRecorded, records_bytes}
use Rattle.acfg_store.specs.Sets.{AreSetsOf, AreSetsOfAll, IsBootSet}
use Rattle.acfg_store.specs.Stands.{AreBytesOf, AreFiles, AreLocalsOf, Booted, Entry, Holds, HoldsOverrides, HoldsRelease, IsUsed, Uses, recorded, server_info, server_value, state_of}
use Rattle.acfg_store.specs.Store.{StoreView}
use Rattle.acfg_store.specs.Turned.{other_slot}
use Rattle.acfg_store.proofs.Apart.{path_part}
use Rattle.acfg_store.proofs.Changing.{commit_leaves, one_changes}
use Rattle.acfg_store.proofs.Lying.{holds_frame, one_files}
use Rattle.acfg_store.proofs.OneSet.{one_parts}
use Rattle.acfg_store.proofs.Opened.{entries_in_order, layout_stands, layout_valid}
use Rattle.acfg_store.proofs.Stored.{all_kept}
use Rattle.acfg_store.proofs.Unused.{not_used}
use Rattle.acfg_views.specs.Layout.{flag_info_type, flag_val_type}

other_apart : (slot : Slot) → other_slot slot ≡ slot → ⊥
other_apart Zero e = cc
other_apart One e = cc

-- an item of a list with another in its place is that one or one of the list
in_set : {X : Type 0} (xs : List X) (at : ℕ) (one : X) → at < length xs → (x : X) → Contains (set xs at one) x → (x ≡ one) ⊎ Contains xs x
in_set xs at one within x held = go (cases_eq held.0 at)
  where
    go : (held.0 ≡ at) ⊎ (held.0 ≡ at → ⊥) → (x ≡ one) ⊎ Contains xs x
    go (inl same) = inl (sym held.2 ∙ ap (λ (k : ℕ). get_or (set xs at one) k x) same ∙ get_or-set_same xs at one x within)
    go (inr apart) = inr (held.0, (let len = length-set xs at one in omega (arith, len, held.1)), sym (get_or-set_other xs at held.0 one x apart) ∙ held.2)

-- a file of three
among_three : (a b c : NewFile) (P : List ℕ → Type 0) → P (string_bytes a.name) → P (string_bytes b.name) → P (string_bytes c.name) → (name : List ℕ) → IsNameAmong (a ∷ b ∷ c ∷ []) name → P name
among_three a b c P pa pb pc name of = subst P (sym of.2) (at of.1.0 of.0 of.1.1 of.1.2)
  where
    at : (k : ℕ) (file : NewFile) → k < length (a ∷ b ∷ c ∷ []) → get_or (a ∷ b ∷ c ∷ []) k file ≡ file → P (string_bytes file.name)
    at zero file within is = subst (λ (f : NewFile). P (string_bytes f.name)) is pa
    at (suc zero) file within is = subst (λ (f : NewFile). P (string_bytes f.name)) is pb
    at (suc (suc zero)) file within is = subst (λ (f : NewFile). P (string_bytes f.name)) is pc
    at (suc (suc (suc more))) file within is = absurd (omega (arith, within))

-- containers that are kept have lawful names
pub lawful_names : (ks : List Kept) → AreKept ks → All (λ (k : Kept). IsContainer k.name) ks
lawful_names ks are k d within =
    let inner = length-map ks entry_of in
    let outer = length-map (entries_of ks) recorded in
    let is : get_or (map recorded (entries_of ks)) k (recorded (entry_of d)) ≡ recorded (entry_of (get_or ks k d)) =
    get_or-map recorded (entries_of ks) k (entry_of d) (recorded (entry_of d)) (omega (arith, inner, within)) ∙ ap recorded (get_or-map entry_of ks k d (entry_of d) within) in
    (subst IsRecorded is (are.listed.each k (recorded (entry_of d)) (omega (arith, inner, outer, within)))).name

-- what a cut leaves of a commit is between the two states
pub new_between : (a b : State) → IsBetween a b b
new_between a b = inr (λ name. record { same = refl; boot = inr refl })

pub either_between : (first : Files) (spoken dir : List ℕ) (a b new : State) (files : Files) (said : List ℕ) → new ≡ b → LeavesState first spoken dir (λ state. (state ≡ a) ⊎ (state ≡ b)) files said
    → LeavesState first spoken dir (IsBetween a new) files said
either_between first spoken dir a b new files said same leaves = record {
  words = leaves.words;
  state = leaves.state;
  is_one = go leaves.is_one;
  stands = leaves.stands;
  others = leaves.others;
}
  where
    go : (leaves.state ≡ a) ⊎ (leaves.state ≡ b) → IsBetween a new leaves.state
    go (inl e) = inl e
    go (inr e) = subst (IsBetween a new) (same ∙ sym e) (new_between a new)

-- and so it is of a call that does nothing
pub rests : (account : Account) (first : Files) (store : StoreView) (new : State) → first ≡ told account.now → IsSettled account.now → IsOpen first store
    → LeavesSince account account (LeavesBetween first account.now.said store new)
rests account first store new files settled opened =
    at_rest (LeavesBetween first account.now.said store new) first account.now.said files refl settled (record {
      words = refl;
      state = state_in store;
      is_one = inl refl;
      stands = layout_stands first store.dir store.entries opened.layout;
      others = λ name foreign. refl;
    })

module _ (dir : List ℕ) (old new : List Kept) (name : List ℕ) (change : Change) (at : ℕ) (changed : IsChangedAt name change old new at) (kept : AreKept old) (plan : Plan) (planned : IsPlanned dir new at plan) where
  abbrev was : Kept
  was = changed.was

  abbrev made : Kept
  made = record was { container = changed.one.container; override_slot = other_slot was.override_slot }

  new_is : new ≡ set old at made
  new_is = changed.are ∙ ap (set old at) changed.turned

  slot : AreSlotFiles dir made plan.slot.items
  slot =
      subst (λ (k : Kept). AreSlotFiles dir k plan.slot.items) (ap (λ (ks : List Kept). get_or ks at made) new_is ∙ get_or-set_same old at made made changed.within)
      (planned.slot made)

  abbrev beside : List ℕ
  beside = string_bytes plan.beside

  -- the names that are free until the list is renamed
  abbrev pub spare : List ℕ → Type 0
  spare other = IsNameAmong plan.slot.items other ⊎ (other ≡ beside)

  record IsOfSlot (other : List ℕ) : Type 0 where
    file : OverrideFile
    named : other ≡ path dir was.name (Override (other_slot was.override_slot) file)

  of_slot : (other : List ℕ) → IsNameAmong plan.slot.items other → IsOfSlot other
  of_slot other among =
      among_three slot.values slot.infos slot.locals IsOfSlot (record { file = override.FlagVal; named = slot.values_named }) (record { file = override.FlagInfo; named = slot.infos_named })
      (record { file = override.Local; named = slot.locals_named }) other (subst (λ (files : List NewFile). IsNameAmong files other) slot.are among)

  was_lawful : IsContainer was.name
  was_lawful = subst (λ (k : Kept). IsContainer k.name) (sym changed.was_is) (All-get_or (λ (k : Kept). IsContainer k.name) old at was changed.within (lawful_names old kept))

  -- all names that are written are of the directory
  own : (other : List ℕ) → spare other → IsOfDirectory dir other
  own other (inl among) = let of = of_slot other among in record { container = was.name; part = Override (other_slot was.override_slot) of.file; lawful = was_lawful; spelled = of.named }
  own other (inr same) = record { container = []; part = NewRecords; lawful = refl; spelled = same ∙ planned.beside }

  pub written_own : (other : List ℕ) → IsNameAmong plan.slot.items other ⊎ ((other ≡ beside) ⊎ (other ≡ string_bytes plan.list)) → IsOfDirectory dir other
  written_own other (inl among) = own other (inl among)
  written_own other (inr (inl same)) = own other (inr same)
  written_own other (inr (inr same)) = record { container = []; part = Records; lawful = refl; spelled = same ∙ planned.list }

  pub beside_apart : beside ≡ string_bytes plan.list → ⊥
  beside_apart same = let parts : NewRecords ≡ Records = path_part dir dir [] [] NewRecords Records (sym planned.beside ∙ same ∙ planned.list) in cc

  module _ (files : List NewFile) (second first_name : List ℕ) (files_are : files ≡ plan.slot.items) (second_is : second ≡ beside) (name_is : first_name ≡ string_bytes plan.list) where
    pub own_of : (other : List ℕ) → IsNameAmong files other ⊎ ((other ≡ second) ⊎ (other ≡ first_name)) → IsOfDirectory dir other
    own_of other (inl among) = written_own other (inl (subst (λ (files : List NewFile). IsNameAmong files other) files_are among))
    own_of other (inr (inl same)) = written_own other (inr (inl (same ∙ second_is)))
    own_of other (inr (inr same)) = written_own other (inr (inr (same ∙ name_is)))

    pub names_apart : second ≡ first_name → ⊥
    names_apart same = beside_apart (sym second_is ∙ same ∙ name_is)

  was_in : Contains (entries_of old) (entry_of was)
  was_in =
      (at, subst (λ (n : ℕ). at < n) (sym (length-map old entry_of)) changed.within, get_or-map entry_of old at was (entry_of was) changed.within ∙ ap entry_of (sym changed.was_is))

  -- and none is used
  free : (other : List ℕ) → spare other → IsUsed dir (entries_of old) other → ⊥
  free other (inl among) used =
      let of = of_slot other among in
      not_used dir (entries_of old) (entries_in_order (entries_of old) kept.listed kept.valid) (entry_of was) was_in (Override (other_slot was.override_slot) of.file)
      (λ same. cc) (λ uses. other_apart was.override_slot uses.0) (subst (IsUsed dir (entries_of old)) of.named used)
  free other (inr same) (inl list) = let parts : NewRecords ≡ Records = path_part dir dir [] [] NewRecords Records (sym planned.beside ∙ sym same ∙ list) in cc
  free other (inr same) (inr of) =
      let parts : NewRecords ≡ of.part = path_part dir dir [] of.entry.name NewRecords of.part (sym planned.beside ∙ sym same ∙ of.spelled) in
      subst (Uses of.entry) (sym parts) of.uses

  module _ (first : Files) where
    -- the files when the list is renamed
    abbrev pub after : Files
    after = replaced beside (string_bytes plan.list) plan.bytes.items (written plan.slot.items first)

    after_others : (other : List ℕ) → (spare other → ⊥) → (other ≡ string_bytes plan.list → ⊥) → after other ≡ first other
    after_others other not_spare not_list =
        replaced_others beside (string_bytes plan.list) plan.bytes.items (written plan.slot.items first) other (λ changed. elim changed [ inl same ↦ not_spare (inr same) | inr same ↦ not_list same ])
        ∙ written_others plan.slot.items first other (λ among. not_spare (inl among))

    -- a file that is used is as it was
    used_same : (entry : Entry) → Contains (entries_of old) entry → (part : Part) → Uses entry part → after (path dir entry.name part) ≡ first (path dir entry.name part)
    used_same entry in_list part uses =
        after_others (path dir entry.name part) (λ spared. free (path dir entry.name part) spared (inr (record { entry = entry; among = in_list; part = part; uses = uses; spelled = refl })))
        (λ same. let parts : part ≡ Records = path_part dir dir entry.name [] part Records (same ∙ planned.list) in subst (Uses entry) parts uses)

    -- a file of the slot is there
    abbrev slot_path : OverrideFile → List ℕ
    slot_path file = path dir was.name (Override (other_slot was.override_slot) file)

    slot_there : (file : OverrideFile) → after (slot_path file) ≡ written plan.slot.items first (slot_path file)
    slot_there file =
        replaced_others beside (string_bytes plan.list) plan.bytes.items (written plan.slot.items first) (slot_path file) (λ changed. elim changed [
          | inl same ↦ absurd (let parts : Override (other_slot was.override_slot) file ≡ NewRecords = path_part dir dir was.name [] (Override (other_slot was.override_slot) file) NewRecords (same ∙ planned.beside) in cc)
          | inr same ↦ absurd (let parts : Override (other_slot was.override_slot) file ≡ Records = path_part dir dir was.name [] (Override (other_slot was.override_slot) file) Records (same ∙ planned.list) in cc)
        ])

    file_apart : (file other : OverrideFile) → slot_path file ≡ slot_path other → Override (other_slot was.override_slot) file ≡ Override (other_slot was.override_slot) other
    file_apart file other same = path_part dir dir was.name was.name (Override (other_slot was.override_slot) file) (Override (other_slot was.override_slot) other) same

    abbrev with_values : Files
    with_values = update bytes_eq first (string_bytes slot.values.name) (Some slot.values.bytes.items)

    abbrev with_infos : Files
    with_infos = update bytes_eq with_values (string_bytes slot.infos.name) (Some slot.infos.bytes.items)

    all_three : (other : List ℕ) → written plan.slot.items first other ≡ update bytes_eq with_infos (string_bytes slot.locals.name) (Some slot.locals.bytes.items) other
    all_three other = ap (λ (files : List NewFile). written files first other) slot.are

    locals_there : after (slot_path override.Local) ≡ Some slot.locals.bytes.items
    locals_there =
        slot_there override.Local ∙ all_three (slot_path override.Local)
        ∙ subst (λ (n : List ℕ). update bytes_eq with_infos (string_bytes slot.locals.name) (Some slot.locals.bytes.items) n ≡ Some slot.locals.bytes.items) slot.locals_named
        (update_here with_infos (string_bytes slot.locals.name) (Some slot.locals.bytes.items))

    infos_there : after (slot_path override.FlagInfo) ≡ Some slot.infos.bytes.items
    infos_there =
        slot_there override.FlagInfo ∙ all_three (slot_path override.FlagInfo)
        ∙ update_apart with_infos (string_bytes slot.locals.name) (Some slot.locals.bytes.items) (slot_path override.FlagInfo)
        (λ same. let e = file_apart override.FlagInfo override.Local (same ∙ slot.locals_named) in cc)
        ∙ subst (λ (n : List ℕ). with_infos n ≡ Some slot.infos.bytes.items) slot.infos_named (update_here with_values (string_bytes slot.infos.name) (Some slot.infos.bytes.items))

    values_there : after (slot_path override.FlagVal) ≡ Some slot.values.bytes.items
    values_there =
        slot_there override.FlagVal ∙ all_three (slot_path override.FlagVal)
        ∙ update_apart with_infos (string_bytes slot.locals.name) (Some slot.locals.bytes.items) (slot_path override.FlagVal)
        (λ same. let e = file_apart override.FlagVal override.Local (same ∙ slot.locals_named) in cc)
        ∙ update_apart with_values (string_bytes slot.infos.name) (Some slot.infos.bytes.items) (slot_path override.FlagVal)
        (λ same. let e = file_apart override.FlagVal override.FlagInfo (same ∙ slot.infos_named) in cc)
        ∙ subst (λ (n : List ℕ). with_values n ≡ Some slot.values.bytes.items) slot.values_named (update_here first (string_bytes slot.values.name) (Some slot.values.bytes.items))

    list_there : after (path dir [] Records) ≡ Some (records_bytes (map recorded (entries_of new)))
    list_there =
        subst (λ (n : List ℕ). after n ≡ Some plan.bytes.items) planned.list (replaced_here beside (string_bytes plan.list) plan.bytes.items (written plan.slot.items first))
        ∙ ap (λ (bytes : List ℕ). Some bytes) planned.bytes

    -- the files that are kept stand where they stood
    files_framed : (name_of : FileType → List ℕ) (set : four.Files) → ((file : FileType) → after (name_of file) ≡ first (name_of file)) → AreFiles first name_of set → AreFiles after name_of set
    files_framed name_of set same files = record {
      package_map = same image.PackageMap ∙ files.package_map;
      flag_map = same image.FlagMap ∙ files.flag_map;
      flag_val = same image.FlagVal ∙ files.flag_val;
      flag_info = same image.FlagInfo ∙ files.flag_info;
    }

    boot_framed : (entry : Entry) → Contains (entries_of old) entry → (slot : Option Slot) → entry.boot_slot ≡ slot → (set : Option four.Files) → IsBootSet first dir entry.name slot set → IsBootSet after dir entry.name slot set
    boot_framed entry in_list None is None stands = stands
    boot_framed entry in_list None is (Some set) stands = stands
    boot_framed entry in_list (Some slot) is None stands = stands
    boot_framed entry in_list (Some slot) is (Some set) stands =
        files_framed (λ (file : FileType). path dir entry.name (Boot slot file)) set (λ file. used_same entry in_list (Boot slot file) (rw is refl)) stands

    kept_framed : (k : Kept) → Contains (entries_of old) (entry_of k) → KeepsFiles first dir k → KeepsFiles after dir k
    kept_framed k in_list keeps = record {
      release = files_framed (λ (file : FileType). path dir k.name (Release k.release_slot file)) k.release (λ file. used_same (entry_of k) in_list (Release k.release_slot file) refl) keeps.release;
      boot = boot_framed (entry_of k) in_list (entry_of k).boot_slot refl (sets_of k).boot keeps.boot;
    }

    module _ (layout : IsLayout first dir (entries_of old)) (sets : AreSetsOfAll first dir (entries_of old) (all_sets_of old)) where
      keeps_each : All (KeepsFiles first dir) old
      keeps_each k d within =
          let below : k < length (entries_of old) = subst (λ (n : ℕ). k < n) (sym (length-map old entry_of)) within in
          subst (λ (both : Entry × _). AreSetsOf first dir both.0 both.1)
          (λ i. (get_or-map entry_of old k d (entry_of d) within i, get_or-map sets_of old k d (sets_of d) within i))
          (sets.each k (entry_of d) (sets_of d) below)

      kept_in : (k : ℕ) (d : Kept) → k < length old → Contains (entries_of old) (entry_of (get_or old k d))
      kept_in k d within =
          (k, subst (λ (n : ℕ). k < n) (sym (length-map old entry_of)) within, get_or-map entry_of old k d (entry_of (get_or old k d)) within)

      keeps_after : All (KeepsFiles after dir) old
      keeps_after k d within = kept_framed (get_or old k d) (kept_in k d within) (keeps_each k d within)

      keeps_was : KeepsFiles first dir was
      keeps_was = subst (KeepsFiles first dir) (sym changed.was_is) (keeps_each at was changed.within)

      pub sets_after : AreSetsOfAll after dir (entries_of new) (all_sets_of new)
      sets_after =
          all_kept after dir new
          (subst (All (KeepsFiles after dir)) (sym new_is) (All-set (KeepsFiles after dir) old at made (let k = kept_framed was was_in keeps_was in record { release = k.release; boot = k.boot }) keeps_after))

      -- the container that is changed
      before : Holds first dir (entry_of was)
      before = All-contains (Holds first dir) (entries_of old) (entry_of was) layout.lies.each was_in

      framed : Holds after dir (entry_of was)
      framed = holds_frame first after dir (entry_of was) (used_same (entry_of was) was_in) before

      same_set : framed.release.set ≡ was.release
      same_set =
          let k = kept_framed was was_in keeps_was in
          one_files after (λ (file : FileType). path dir was.name (Release was.release_slot file)) framed.release.set was.release framed.release.stand k.release

      abbrev parts : SetParts
      parts = framed.release.is_set.parts

      same_parts : slot.parts ≡ parts
      same_parts =
          one_parts was.release purpose.Release purpose.Release slot.parts parts slot.is_set (subst (λ (set : four.Files). IsSetOf set purpose.Release parts) same_set framed.release.is_set.files_are)

      release_held : HoldsRelease after dir (entry_of made)
      release_held = record {
        set = framed.release.set;
        notes = framed.release.notes;
        stand = framed.release.stand;
        is_set = record {
          parts = parts;
          files_are = framed.release.is_set.files_are;
          container_is = framed.release.is_set.container_is;
          release_is = framed.release.is_set.release_is ∙ sym changed.same_release;
          notes_are = framed.release.is_set.notes_are;
        };
        digest = changed.same_digest ∙ framed.release.digest;
      }

      bytes_held : (file_type : ℕ) (bytes : List ℕ) (byte_of : _) → AreBytesOf file_type bytes slot.parts.package_map.container byte_of (listing slot.parts) → AreBytesOf file_type bytes was.name byte_of (listing parts)
      bytes_held file_type bytes byte_of are =
          subst (λ (container : List ℕ). AreBytesOf file_type bytes container byte_of (listing parts)) framed.release.is_set.container_is
          (subst (λ (parts : SetParts). AreBytesOf file_type bytes parts.package_map.container byte_of (listing parts)) same_parts are)

      overrides_held : HoldsOverrides after dir (entry_of made) (listing parts)
      overrides_held = record {
        values = slot.values.bytes.items;
        infos = slot.infos.bytes.items;
        locals = slot.locals.bytes.items;
        values_stand = values_there;
        infos_stand = infos_there;
        locals_stand = locals_there;
        values_are = bytes_held flag_val_type slot.values.bytes.items (server_value made.container.server) slot.values_are;
        infos_are = bytes_held flag_info_type slot.infos.bytes.items (server_info made.container.server) slot.infos_are;
        locals_are = subst (λ (parts : SetParts). AreLocalsOf slot.locals.bytes.items made.container.local (listing parts)) same_parts slot.locals_are;
      }

      held : Holds after dir (entry_of made)
      unfolding release_held
      held = record {
        release = release_held;
        overrides = overrides_held;
        boot = subst (Booted after dir was.name (entry_of was).boot_slot) (sym changed.same_boot) framed.boot;
      }

      entries_new : entries_of new ≡ set (entries_of old) at (entry_of made)
      entries_new = ap entries_of new_is ∙ map-set entry_of old at made

      one_change : ChangesOne dir (entries_of old) (entries_of new) (entry_of made) first after
      one_change = record {
        listed = inl list_there;
        lawful = changed.kept.listed;
        holds = held;
        rest = λ other held. rest other (in_set (entries_of old) at (entry_of made) (subst (λ (n : ℕ). at < n) (sym (length-map old entry_of)) changed.within) other (subst (λ (es : List Entry). Contains es other) entries_new held));
      }
        where
          rest : (other : Entry) → (other ≡ entry_of made) ⊎ Contains (entries_of old) other
              → (other ≡ entry_of made) ⊎ (Contains (entries_of old) other × ((part : Part) → Uses other part → after (path dir other.name part) ≡ first (path dir other.name part)))
          rest other (inl same) = inl same
          rest other (inr in_list) = inr (in_list, used_same other in_list)

      pub layout_after : IsLayout after dir (entries_of new)
      layout_after = record {
        lies = one_changes dir (entries_of old) (entries_of new) (entry_of made) first after layout.lies one_change;
        valid = layout_valid (entries_of new) changed.kept.listed changed.kept.valid;
      }

      pub committed : IsCommit dir (entries_of old) (entries_of new) spare first after
      committed = record {
        before = layout;
        after = layout_after;
        free = free;
        own = own;
        others = λ other foreign. after_others other (λ spared. foreign (own other spared)) (λ same. foreign (record { container = []; part = Records; lawful = refl; spelled = same ∙ planned.list }));
      }

      module _ (files : List NewFile) (second first_name bytes : List ℕ) (files_are : files ≡ plan.slot.items) (second_is : second ≡ beside) (name_is : first_name ≡ string_bytes plan.list) (bytes_are : bytes ≡ plan.bytes.items) where
        after_is : replaced second first_name bytes (written files first) ≡ after
        after_is i = replaced (second_is i) (name_is i) (bytes_are i) (written (files_are i) first)

        pub layout_of : (now : Files) → now ≡ replaced second first_name bytes (written files first) → IsLayout now dir (entries_of new)
        layout_of now is = subst (λ (now : Files). IsLayout now dir (entries_of new)) (sym (is ∙ after_is)) layout_after

        pub sets_of_all : (now : Files) → now ≡ replaced second first_name bytes (written files first) → AreSetsOfAll now dir (entries_of new) (all_sets_of new)
        sets_of_all now is = subst (λ (now : Files). AreSetsOfAll now dir (entries_of new) (all_sets_of new)) (sym (is ∙ after_is)) sets_after

        pub cut_either : (spoken : List ℕ) (left : Files) (said : List ℕ)
            → IsEither first spoken (λ other. IsNameAmong files other ⊎ (other ≡ second)) (replaced second first_name bytes (written files first)) left said
            → LeavesState first spoken dir (IsEitherState (entries_of old) (entries_of new)) left said
        cut_either spoken left said either =
            commit_leaves dir (entries_of old) (entries_of new) spare first after spoken left said committed
            (subst (λ (t : List NewFile × (List ℕ × Files)). IsEither first spoken (λ (other : List ℕ). IsNameAmong t.0 other ⊎ (other ≡ t.1.0)) t.1.1 left said)
            (λ i. (files_are i, (second_is i, after_is i))) either)

        pub cut_leaves : (spoken : List ℕ) (left : Files) (said : List ℕ)
            → IsEither first spoken (λ other. IsNameAmong files other ⊎ (other ≡ second)) (replaced second first_name bytes (written files first)) left said
            → LeavesState first spoken dir (IsBetween (state_of (entries_of old)) (change_step false (state_of (entries_of old)) name change).0) left said
        cut_leaves spoken left said either =
            either_between first spoken dir (state_of (entries_of old)) (state_of (entries_of new)) (change_step false (state_of (entries_of old)) name change).0 left said
            (ap (λ (both : State × Reply). both.0) changed.step) (cut_either spoken left said either)
