-- A container's slots that nothing names are written, and then the list that names them: so the containers lie in the directory with this one
-- changed, or with one more.
use Rattle.std.proofs.Common.{◌≡◌, ◌⊎◌, ℕ, List, [], map, Option, Some, None, inl, inr, refl, sym, ap, ◌∙◌, subst, ⊎_elim}
use Rattle.std.specs.Prelude.{All, Contains, IsSomeAnd}
use Rattle.std.proofs.lemmas.List.Elements.{All-contains}
use Rattle.acfg_base.specs.Names.{IsContainer}
use Rattle.acfg_device.specs.Panel.{Files}
use Rattle.acfg_device.proofs.Naming.{same_name}
use Rattle.acfg_commit.specs.Written.{IsNameAmong, replaced, written}
use Rattle.acfg_commit.specs.declared.several.NewFile.{NewFile}
use Rattle.acfg_commit.proofs.Files.{replaced_here, replaced_others, written_others}
use Rattle.acfg_images.specs.declared.fault.FileType.{FileType}
use Rattle.acfg_images.specs.declared.fault.FileType.TheVariants as image
use Rattle.acfg_images.specs.declared.purpose.Use.TheVariants as purpose
use Rattle.acfg_images.specs.Files as four
use Rattle.acfg_images.specs.Set.{IsSet, Notes, SetParts}
use Rattle.acfg_model.specs.State.{IsValidContainer}
use Rattle.acfg_store.specs.declared.names.OverrideFile.{OverrideFile}
use Rattle.acfg_store.specs.declared.names.OverrideFile.TheVariants as override
use Rattle.acfg_store.specs.declared.names.Part.{Part}
use Rattle.acfg_store.specs.declared.names.Part.TheVariants.{Records, NewRecords, Release, Override, Pointer, NewPointer, Boot}
use Rattle.acfg_store.specs.declared.names.Slot.{Slot}
use Rattle.acfg_store.specs.Commits.{ChangesOne, IsCommit, IsKept, IsLayout}
use Rattle.acfg_store.specs.Names.{IsContainerOf, IsOfDirectory, path}
use Rattle.acfg_store.specs.Records.{AreRecords, records_bytes}
use Rattle.acfg_store.specs.Sets.{AreSetsOf, IsBootSet, Sets}
use Rattle.acfg_store.specs.Stands.{AreFiles, Booted, Entry, Holds, IsUsed, Uses, recorded}
use Rattle.acfg_store.specs.Updated.{AreSlotFiles, IsSlotPart, slot_parts}
use Rattle.acfg_store.proofs.Apart.{path_container, path_part}
use Rattle.acfg_store.proofs.Changing.{one_changes}
use Rattle.acfg_store.proofs.Lying.{booted_frame, set_frame}
use Rattle.acfg_store.proofs.Opened.{entries_in_order, layout_valid}
use Rattle.acfg_store.proofs.Parcels.{IsLast, IsPartName, each_all, last_written, pairs_written, part_among, written_pairs}
use Rattle.acfg_store.proofs.Unused.{one_entry}
use Rattle.sha2.specs.Sha256.{sha256}

-- what is used of a container is none of the directory's lists
pub not_list : (entry : Entry) (part : Part) → Uses entry part → part ≡ Records → ⊥
not_list entry part uses same = subst (Uses entry) same uses

pub not_new_list : (entry : Entry) (part : Part) → Uses entry part → part ≡ NewRecords → ⊥
not_new_list entry part uses same = subst (Uses entry) same uses

abbrev Valid : Entry → Type 0
Valid entry = IsValidContainer entry.container

all_parts : (entry : Entry) (set : four.Files) (values infos locals : List ℕ) → All (λ (one : Part × List ℕ). IsSlotPart entry one.0) (slot_parts entry.release_slot entry.override_slot set values infos locals)
all_parts entry set values infos locals =
    each_all (IsSlotPart entry) (slot_parts entry.release_slot entry.override_slot set values infos locals)
    (refl, (refl, (refl, (refl, ((refl, tt), ((refl, tt), ((refl, tt), tt)))))))

container_of_part : (entry : Entry) → IsContainer entry.name → (part : Part) → IsSlotPart entry part → IsContainerOf part entry.name
container_of_part entry lawful Records is = absurd is
container_of_part entry lawful NewRecords is = absurd is
container_of_part entry lawful (Release slot file) is = lawful
container_of_part entry lawful (Override slot file) is = lawful
container_of_part entry lawful Pointer is = absurd is
container_of_part entry lawful NewPointer is = absurd is
container_of_part entry lawful (Boot slot file) is = absurd is

-- the files of a container's slots are the directory's
pub slots_own : (dir : List ℕ) (entry : Entry) (set : four.Files) (parts : SetParts) (files : List NewFile) → AreSlotFiles dir entry set parts files → IsContainer entry.name
    → (other : List ℕ) → IsNameAmong files other → IsOfDirectory dir other
slots_own dir entry set parts files are lawful other is =
    let p = part_among dir entry.name (IsSlotPart entry) (slot_parts entry.release_slot entry.override_slot set are.values are.infos are.locals) (all_parts entry set are.values are.infos are.locals) files are.are other is in
    record { container = entry.name; part = p.0; lawful = container_of_part entry lawful p.0 p.1; spelled = p.2 }

pub list_own : (dir other : List ℕ) → other ≡ path dir [] Records → IsOfDirectory dir other
list_own dir other same = record { container = []; part = Records; lawful = refl; spelled = same }

pub new_list_own : (dir other : List ℕ) → other ≡ path dir [] NewRecords → IsOfDirectory dir other
new_list_own dir other same = record { container = []; part = NewRecords; lawful = refl; spelled = same }

pub lists_apart : (dir : List ℕ) → path dir [] NewRecords ≡ path dir [] Records → ⊥
lists_apart dir same = parts_apart (path_part dir dir [] [] NewRecords Records same)
  where
    parts_apart : NewRecords ≡ Records → ⊥
    parts_apart same = cc

-- the new list of containers is no used name
new_list_unused : (dir : List ℕ) (entries : List Entry) → IsUsed dir entries (path dir [] NewRecords) → ⊥
new_list_unused dir entries (inl same) = lists_apart (path_part dir dir [] [] NewRecords Records same)
  where
    lists_apart : NewRecords ≡ Records → ⊥
    lists_apart same = cc
new_list_unused dir entries (inr other) = not_new_list other.entry other.part other.uses (sym (path_part dir dir [] other.entry.name NewRecords other.part other.spelled))

-- the kept files of a boot copy stand where its used files are the same
boot_frame : (before after : Files) (dir name : List ℕ) (slot : Option Slot) (set : Option four.Files)
    → ((other : Slot) (file : FileType) → IsSomeAnd slot (λ named. other ≡ named) → after (path dir name (Boot other file)) ≡ before (path dir name (Boot other file)))
    → IsBootSet before dir name slot set → IsBootSet after dir name slot set
boot_frame before after dir name None None same of = tt
boot_frame before after dir name None (Some set) same of = of
boot_frame before after dir name (Some slot) None same of = of
boot_frame before after dir name (Some slot) (Some set) same of = set_frame before after dir (λ (file : FileType). path dir name (Boot slot file)) set (λ file. same slot file refl) of

-- and so do all kept files of a container
pub sets_frame : (before after : Files) (dir : List ℕ) (entry : Entry) (sets : Sets) → IsKept dir entry before after → AreSetsOf before dir entry sets → AreSetsOf after dir entry sets
sets_frame before after dir entry sets same of = record {
  release = set_frame before after dir (λ (file : FileType). path dir entry.name (Release entry.release_slot file)) sets.release (λ file. same (Release entry.release_slot file) refl) of.release;
  boot = boot_frame before after dir entry.name entry.boot_slot sets.boot (λ slot file uses. same (Boot slot file) uses) of.boot;
}

module _ (dir : List ℕ) (entries later : List Entry) (entry : Entry) (first : Files) (set : four.Files) (notes : Notes)
    (is_set : IsSet set purpose.Release entry.name entry.container.release notes) (files : List NewFile) (are : AreSlotFiles dir entry set is_set.parts files) where
  abbrev pub New : Files
  New = replaced (path dir [] NewRecords) (path dir [] Records) (records_bytes (map recorded later)) (written files first)

  abbrev pub Spare : List ℕ → Type 0
  Spare other = IsNameAmong files other ⊎ (other ≡ path dir [] NewRecords)

  abbrev slots : List (Part × List ℕ)
  slots = slot_parts entry.release_slot entry.override_slot set are.values are.infos are.locals

  among : (other : List ℕ) → IsNameAmong files other → IsPartName dir entry.name (IsSlotPart entry) other
  among = part_among dir entry.name (IsSlotPart entry) slots (all_parts entry set are.values are.infos are.locals) files are.are

  beside_list : (name : List ℕ) (part : Part) → (part ≡ Records → ⊥) → (part ≡ NewRecords → ⊥) → New (path dir name part) ≡ written files first (path dir name part)
  beside_list name part no_list no_new =
      replaced_others (path dir [] NewRecords) (path dir [] Records) (records_bytes (map recorded later)) (written files first) (path dir name part)
      (⊎_elim (λ same. no_new (path_part dir dir name [] part NewRecords same)) (λ same. no_list (path_part dir dir name [] part Records same)))

  -- the used files of other containers stay
  pub kept_other : (other : Entry) → (other.name ≡ entry.name → ⊥) → IsKept dir other first New
  kept_other other apart part uses =
      beside_list other.name part (not_list other part uses) (not_new_list other part uses)
      ∙ written_others files first (path dir other.name part) (λ is.
      let p = among (path dir other.name part) is in
      let same : part ≡ p.0 = path_part dir dir other.name entry.name part p.0 p.2 in
      apart (path_container dir other.name entry.name part (p.2 ∙ ap (path dir entry.name) (sym same))))

  -- of the container itself, what isn't written stays
  own_kept : (part : Part) → (part ≡ Records → ⊥) → (part ≡ NewRecords → ⊥) → (IsSlotPart entry part → ⊥) → New (path dir entry.name part) ≡ first (path dir entry.name part)
  own_kept part no_list no_new free =
      beside_list entry.name part no_list no_new
      ∙ written_others files first (path dir entry.name part) (λ is.
      let p = among (path dir entry.name part) is in
      free (subst (IsSlotPart entry) (sym (path_part dir dir entry.name entry.name part p.0 p.2)) p.1))

  -- and what is written has its bytes
  own_written : (part : Part) (bytes : List ℕ) → (part ≡ Records → ⊥) → (part ≡ NewRecords → ⊥) → IsLast part bytes slots → New (path dir entry.name part) ≡ Some bytes
  own_written part bytes no_list no_new last =
      beside_list entry.name part no_list no_new
      ∙ ap (λ (f : Files). f (path dir entry.name part)) (pairs_written files first ∙ ap (λ (pairs : List (List ℕ × List ℕ)). written_pairs pairs first) are.are)
      ∙ last_written dir entry.name part bytes slots first last

  release_written : (file : FileType) (bytes : List ℕ) → IsLast (Release entry.release_slot file) bytes slots → New (path dir entry.name (Release entry.release_slot file)) ≡ Some bytes
  release_written file bytes last = own_written (Release entry.release_slot file) bytes (λ e. cc) (λ e. cc) last

  override_written : (file : OverrideFile) (bytes : List ℕ) → IsLast (Override entry.override_slot file) bytes slots → New (path dir entry.name (Override entry.override_slot file)) ≡ Some bytes
  override_written file bytes last = own_written (Override entry.override_slot file) bytes (λ e. cc) (λ e. cc) last

  set_stands : AreFiles New (λ file. path dir entry.name (Release entry.release_slot file)) set
  set_stands = record {
    package_map = release_written image.PackageMap set.package_map (inl (refl, refl, ((λ e. cc), ((λ e. cc), ((λ e. cc), ((λ e. cc), ((λ e. cc), ((λ e. cc), tt))))))));
    flag_map = release_written image.FlagMap set.flag_map (inr (inl (refl, refl, ((λ e. cc), ((λ e. cc), ((λ e. cc), ((λ e. cc), ((λ e. cc), tt))))))));
    flag_val = release_written image.FlagVal set.flag_val (inr (inr (inl (refl, refl, ((λ e. cc), ((λ e. cc), ((λ e. cc), ((λ e. cc), tt))))))));
    flag_info = release_written image.FlagInfo set.flag_info (inr (inr (inr (inl (refl, refl, ((λ e. cc), ((λ e. cc), ((λ e. cc), tt))))))));
  }

  -- its kept files stand in its slots
  pub own_sets : (boot : Option four.Files) → IsBootSet first dir entry.name entry.boot_slot boot → AreSetsOf New dir entry (record { release = set; boot = boot })
  own_sets boot stands = record {
    release = set_stands;
    boot = boot_frame first New dir entry.name entry.boot_slot boot (λ slot file uses. own_kept (Boot slot file) (λ e. cc) (λ e. cc) (λ is. is)) stands;
  }

  abbrev Boots : Files → Type 0
  Boots here = Booted here dir entry.name entry.boot_slot entry.container.boot

  module _ (digest : entry.container.digest ≡ sha256 (four.joined set)) (booted : Boots first) where
    -- the new files hold the container
    pub held : Holds New dir entry
    held = record {
      release = record { set = set; notes = notes; stand = set_stands; is_set = is_set; digest = digest };
      overrides = record {
        values = are.values;
        infos = are.infos;
        locals = are.locals;
        values_stand = override_written override.FlagVal are.values (inr (inr (inr (inr (inl (refl, refl, ((λ e. cc), ((λ e. cc), tt))))))));
        infos_stand = override_written override.FlagInfo are.infos (inr (inr (inr (inr (inr (inl (refl, refl, ((λ e. cc), tt))))))));
        locals_stand = override_written override.Local are.locals (inr (inr (inr (inr (inr (inr (inl (refl, refl, tt))))))));
        values_are = are.values_are;
        infos_are = are.infos_are;
        locals_are = are.locals_are;
      };
      boot = booted_frame first New dir entry.name entry.boot_slot entry.container.boot (own_kept Pointer (λ e. cc) (λ e. cc) (λ is. is))
          (λ slot file uses. own_kept (Boot slot file) (λ e. cc) (λ e. cc) (λ is. is)) booted;
    }

    module _ (before : IsLayout first dir entries) (lawful : AreRecords (map recorded later)) (valid : All Valid later) (there : Contains later entry)
        (rest : All (λ (other : Entry). (other.name ≡ entry.name → ⊥) → Contains entries other) later) where
      changes : ChangesOne dir entries later entry first New
      changes = record {
        listed = inl (replaced_here (path dir [] NewRecords) (path dir [] Records) (records_bytes (map recorded later)) (written files first));
        lawful = lawful;
        holds = held;
        rest = λ other in_later. by_name other in_later (same_name entry.name other.name);
      }
        where
          by_name : (other : Entry) → Contains later other → (other.name ≡ entry.name) ⊎ (other.name ≡ entry.name → ⊥)
              → (other ≡ entry) ⊎ (Contains entries other × IsKept dir other first New)
          by_name other in_later (inl same) = inl (one_entry later (entries_in_order later lawful valid) other entry in_later there same)
          by_name other in_later (inr apart) =
              inr (All-contains (λ (other : Entry). (other.name ≡ entry.name → ⊥) → Contains entries other) later other rest in_later apart, kept_other other apart)

      -- the containers lie there
      pub laid : IsLayout New dir later
      laid = record { lies = one_changes dir entries later entry first New before.lies changes; valid = layout_valid later lawful valid }

      module _ (unused : (part : Part) → IsSlotPart entry part → IsUsed dir entries (path dir entry.name part) → ⊥) (name_lawful : IsContainer entry.name) where
        spare_own : (name : List ℕ) → Spare name → IsOfDirectory dir name
        spare_own name (inl is) =
            let p = among name is in
            record { container = entry.name; part = p.0; lawful = container_of_part entry name_lawful p.0 p.1; spelled = p.2 }
        spare_own name (inr same) = record { container = []; part = NewRecords; lawful = refl; spelled = same }

        spare_free : (name : List ℕ) → Spare name → IsUsed dir entries name → ⊥
        spare_free name (inl is) used =
            let p = among name is in
            unused p.0 p.1 (subst (IsUsed dir entries) p.2 used)
        spare_free name (inr same) used = new_list_unused dir entries (subst (IsUsed dir entries) same used)

        pub committed : IsCommit dir entries later Spare first New
        committed = record {
          before = before;
          after = laid;
          free = spare_free;
          own = spare_own;
          others = λ name foreign.
              replaced_others (path dir [] NewRecords) (path dir [] Records) (records_bytes (map recorded later)) (written files first) name
              (⊎_elim (λ same. foreign (record { container = []; part = NewRecords; lawful = refl; spelled = same })) (λ same. foreign (record { container = []; part = Records; lawful = refl; spelled = same })))
              ∙ written_others files first name (λ is. foreign (spare_own name (inl is)));
        }
