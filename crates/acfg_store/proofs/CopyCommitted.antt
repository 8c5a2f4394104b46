-- The files that are written of one container's boot copy: with them the directory holds the containers with that one's
-- boot copy another, and nothing that it used before has changed until the pointer is renamed.
use Rattle.std.proofs.Common.{◌≡◌, ◌⊎◌, ℕ, ◌<◌, List, map, length, get_or, set, Option, Some, None, inl, inr, refl, sym, ap, subst, ◌∙◌, string_bytes}
use Rattle.std.specs.Prelude.{All, Contains}
use Rattle.std.proofs.lemmas.List.{get_or-map, get_or_default, length-map, map-set}
use Rattle.std.proofs.lemmas.List.Elements.{All-contains, All-get_or, All-set}
use Rattle.acfg_base.specs.Names.{IsContainer}
use Rattle.acfg_commit.specs.declared.several.NewFile.{NewFile}
use Rattle.acfg_commit.specs.Written.{IsNameAmong, replaced, written}
use Rattle.acfg_device.specs.Left.{IsEither}
use Rattle.acfg_device.specs.Panel.{Files}
use Rattle.acfg_images.specs.declared.fault.FileType.{FileType}
use Rattle.acfg_images.specs.Files as four
use Rattle.acfg_model.specs.State.{BootMap, IsValidContainer}
use Rattle.acfg_store.specs.declared.booting.CopyPlan.{CopyPlan}
use Rattle.acfg_store.specs.declared.containers.Kept.{Kept}
use Rattle.acfg_store.specs.declared.names.Part.{Part}
use Rattle.acfg_store.specs.declared.names.Part.TheVariants.{Release, Pointer, NewPointer, Boot}
use Rattle.acfg_store.specs.declared.names.Slot.{Slot}
use Rattle.acfg_store.specs.BootPlans.{IsCopyPlan, TakesCopy, named_slot, with_copy}
use Rattle.acfg_store.specs.Commits.{IsCommit, IsLayout, IsEitherState, LeavesState}
use Rattle.acfg_store.specs.Kept.{IsCopied, IsCopySet, IsIndexed, entry_of, sets_of}
use Rattle.acfg_store.specs.Names.{IsOfDirectory, path}
use Rattle.acfg_store.specs.Opening.{AreKept, KeepsFiles, all_sets_of, entries_of}
use Rattle.acfg_store.specs.Records.{AreRecords, IsRecorded, pointer_bytes}
use Rattle.acfg_store.specs.Renewing.{IsCopyWith}
use Rattle.acfg_store.specs.Sets.{AreSetsOf, AreSetsOfAll, IsBootSet, Sets}
use Rattle.acfg_store.specs.Stands.{Entry, Holds, IsUsed, Uses, recorded}
use Rattle.acfg_store.proofs.Apart.{path_part}
use Rattle.acfg_store.proofs.Changing.{commit_leaves}
use Rattle.acfg_store.proofs.Lying.{set_frame}
use Rattle.acfg_store.proofs.Rebooted.{among, commit_booted, new_others, recorded_set, stand_new}
use Rattle.acfg_store.proofs.Stored.{all_kept}

-- a container that is kept is valid
pub kept_valid : (old : List Kept) → AreKept old → (at : ℕ) → at < length old → (one : Kept) → one ≡ get_or old at one → IsValidContainer one.container
kept_valid old kept at within one is =
    let entry : Entry = entry_of one in
    let same : get_or (entries_of old) at entry ≡ entry = get_or-map entry_of old at one entry within ∙ ap entry_of (sym is) in
    subst (λ (e : Entry). IsValidContainer e.container) same
    (All-get_or (λ (e : Entry). IsValidContainer e.container) (entries_of old) at entry (subst (λ (n : ℕ). at < n) (sym (length-map old entry_of)) within) kept.valid)

module _ (dir : List ℕ) (old : List Kept) (kept : AreKept old) (at : ℕ) (within : at < length old) (one : Kept) (is : one ≡ get_or old at one) (plan : CopyPlan) (planned : IsCopyPlan dir one.name (named_slot one) plan) where
  abbrev entry : Entry
  entry = entry_of one

  below : at < length (entries_of old)
  below = subst (λ (n : ℕ). at < n) (sym (length-map old entry_of)) within

  entry_is : entry ≡ get_or (entries_of old) at entry
  entry_is = ap entry_of is ∙ sym (get_or-map entry_of old at one entry within)

  in_list : Contains (entries_of old) entry
  in_list = (at, below, sym entry_is)

  lawful : IsContainer one.name
  lawful =
      let row : recorded entry ≡ get_or (map recorded (entries_of old)) at (recorded entry) = ap recorded entry_is ∙ sym (get_or-map recorded (entries_of old) at entry (recorded entry) below) in
      (subst IsRecorded (sym row) (kept.listed.each at (recorded entry) (subst (λ (n : ℕ). at < n) (sym (length-map (entries_of old) recorded)) below))).name

  -- all names that are written are of the directory
  pub copy_own : (files : List NewFile) (beside name : List ℕ) → files ≡ plan.files.items → beside ≡ string_bytes plan.beside → name ≡ string_bytes plan.pointer
      → (other : List ℕ) → IsNameAmong files other ⊎ ((other ≡ beside) ⊎ (other ≡ name)) → IsOfDirectory dir other
  copy_own files beside name files_are beside_is name_is other (inl written) =
      let slot_name = among dir one.name plan.boot.slot plan.boot.set plan.files.items planned.files (λ _. None) other (subst (λ (files : List NewFile). IsNameAmong files other) files_are written) in
      record { container = one.name; part = Boot plan.boot.slot slot_name.0; lawful = lawful; spelled = slot_name.1 }
  copy_own files beside name files_are beside_is name_is other (inr (inl same)) = record { container = one.name; part = NewPointer; lawful = lawful; spelled = same ∙ beside_is ∙ planned.beside }
  copy_own files beside name files_are beside_is name_is other (inr (inr same)) = record { container = one.name; part = Pointer; lawful = lawful; spelled = same ∙ name_is ∙ planned.pointer }

  pub copy_apart : (beside name : List ℕ) → beside ≡ string_bytes plan.beside → name ≡ string_bytes plan.pointer → beside ≡ name → ⊥
  copy_apart beside name beside_is name_is same =
      let parts : NewPointer ≡ Pointer = path_part dir dir one.name one.name NewPointer Pointer (sym planned.beside ∙ sym beside_is ∙ same ∙ name_is ∙ planned.pointer) in cc

  module _ (boot : BootMap) (new : Kept) (by : TakesCopy plan.boot boot one new) where
    entry_new : entry_of new ≡ with_copy entry boot
    entry_new = ap entry_of by.is ∙ ap (λ (slot : Slot). record (with_copy entry boot) { boot_slot = Some slot }) planned.slot

    pub entries_set : entries_of (set old at new) ≡ set (entries_of old) at (with_copy (entry_of one) boot)
    entries_set = map-set entry_of old at new ∙ ap (set (entries_of old) at) entry_new

    pub kept_copied : IsCopySet plan.boot.set boot → AreKept (set old at new)
    kept_copied copied = record {
      listed = subst AreRecords (sym (ap (map recorded) entries_set ∙ recorded_set (entries_of old) at entry boot below entry_is)) kept.listed;
      valid = subst (All (λ (e : Entry). IsValidContainer e.container)) (sym (map-set entry_of old at new))
          (All-set (λ (e : Entry). IsValidContainer e.container) (entries_of old) at (entry_of new) by.valid kept.valid);
      indexed = All-set IsIndexed old at new
          (subst IsIndexed (sym by.is) (subst IsIndexed (sym is) (All-get_or IsIndexed old at one within kept.indexed))) kept.indexed;
      copied = All-set IsCopied old at new (subst IsCopied (sym by.is) copied) kept.copied;
    }

  pub one_at : (other : Entry) → entry_of one ≡ get_or (entries_of old) at other
  one_at other = entry_is ∙ get_or_default (entries_of old) at entry other below

  module _ (first : Files) (layout : IsLayout first dir (entries_of old)) (sets : AreSetsOfAll first dir (entries_of old) (all_sets_of old)) where
    keeps_each : All (KeepsFiles first dir) old
    keeps_each k d inside =
        let low : k < length (entries_of old) = subst (λ (n : ℕ). k < n) (sym (length-map old entry_of)) inside in
        subst (λ (both : Entry × Sets). AreSetsOf first dir both.0 both.1)
        (λ i. (get_or-map entry_of old k d (entry_of d) inside i, get_or-map sets_of old k d (sets_of d) inside i))
        (sets.each k (entry_of d) (sets_of d) low)

    pub keeps_one : KeepsFiles first dir one
    keeps_one = subst (KeepsFiles first dir) (sym is) (keeps_each at one within)

    pub holds_one : Holds first dir (entry_of one)
    holds_one = All-contains (Holds first dir) (entries_of old) entry layout.lies.each in_list

    module _ (boot : BootMap) (copy : IsCopyWith plan.boot.set one.name boot) (valid : IsValidContainer (record one.container { boot = Some boot })) where
      abbrev after : Files
      after = replaced (path dir one.name NewPointer) (path dir one.name Pointer) (pointer_bytes plan.boot.slot) (written plan.files.items first)

      commit_is : IsCommit dir (entries_of old) (set (entries_of old) at (with_copy entry boot)) (λ other. IsNameAmong plan.files.items other ⊎ (other ≡ path dir one.name NewPointer)) first after
      commit_is = commit_booted dir (entries_of old) first layout at entry below entry_is plan.boot.slot plan.boot.set plan.files.items planned.files planned.slot boot copy valid

      -- a file that is used is as it was, but for the pointer
      used_same : (e : Entry) → Contains (entries_of old) e → (part : Part) → Uses e part → (part ≡ Pointer → ⊥) → after (path dir e.name part) ≡ first (path dir e.name part)
      used_same e e_in part uses no_pointer = new_others dir one.name plan.boot.slot plan.boot.set plan.files.items planned.files first (path dir e.name part) changed
        where
          used : IsUsed dir (entries_of old) (path dir e.name part)
          used = inr (record { entry = e; among = e_in; part = part; uses = uses; spelled = refl })

          changed : IsNameAmong plan.files.items (path dir e.name part) ⊎ ((path dir e.name part ≡ path dir one.name NewPointer) ⊎ (path dir e.name part ≡ path dir one.name Pointer)) → ⊥
          changed (inl written) = commit_is.free (path dir e.name part) (inl written) used
          changed (inr (inl same)) = commit_is.free (path dir e.name part) (inr same) used
          changed (inr (inr same)) = no_pointer (path_part dir dir e.name one.name part Pointer same)

      boot_framed : (e : Entry) → Contains (entries_of old) e → (slot : Option Slot) → e.boot_slot ≡ slot → (set : Option four.Files) → IsBootSet first dir e.name slot set → IsBootSet after dir e.name slot set
      boot_framed e e_in None slot_is None stands = stands
      boot_framed e e_in None slot_is (Some set) stands = stands
      boot_framed e e_in (Some slot) slot_is None stands = stands
      boot_framed e e_in (Some slot) slot_is (Some set) stands =
          set_frame first after dir (λ (file : FileType). path dir e.name (Boot slot file)) set (λ file. used_same e e_in (Boot slot file) (rw slot_is refl) (λ same. cc)) stands

      kept_framed : (k : Kept) → Contains (entries_of old) (entry_of k) → KeepsFiles first dir k → KeepsFiles after dir k
      kept_framed k k_in keeps = record {
        release = set_frame first after dir (λ (file : FileType). path dir k.name (Release k.release_slot file)) k.release (λ file. used_same (entry_of k) k_in (Release k.release_slot file) refl (λ same. cc)) keeps.release;
        boot = boot_framed (entry_of k) k_in (entry_of k).boot_slot refl (sets_of k).boot keeps.boot;
      }

      kept_in : (k : ℕ) (d : Kept) → k < length old → Contains (entries_of old) (entry_of (get_or old k d))
      kept_in k d inside = (k, subst (λ (n : ℕ). k < n) (sym (length-map old entry_of)) inside, get_or-map entry_of old k d (entry_of (get_or old k d)) inside)

      keeps_after : All (KeepsFiles after dir) old
      keeps_after k d inside = kept_framed (get_or old k d) (kept_in k d inside) (keeps_each k d inside)

      module _ (files : List NewFile) (beside name bytes : List ℕ) (files_are : files ≡ plan.files.items) (beside_is : beside ≡ string_bytes plan.beside) (name_is : name ≡ string_bytes plan.pointer) (bytes_are : bytes ≡ plan.bytes.items) where
        after_is : replaced beside name bytes (written files first) ≡ after
        after_is i = replaced ((beside_is ∙ planned.beside) i) ((name_is ∙ planned.pointer) i) ((bytes_are ∙ planned.bytes) i) (written (files_are i) first)

        pub copy_leaves : (spoken : List ℕ) (left : Files) (said : List ℕ)
            → IsEither first spoken (λ other. IsNameAmong files other ⊎ (other ≡ beside)) (replaced beside name bytes (written files first)) left said
            → LeavesState first spoken dir (IsEitherState (entries_of old) (set (entries_of old) at (with_copy (entry_of one) boot))) left said
        copy_leaves spoken left said either =
            commit_leaves dir (entries_of old) (set (entries_of old) at (with_copy entry boot)) (λ name. IsNameAmong plan.files.items name ⊎ (name ≡ path dir one.name NewPointer)) first after spoken left said commit_is
            (subst (λ (t : List NewFile × (List ℕ × Files)). IsEither first spoken (λ (other : List ℕ). IsNameAmong t.0 other ⊎ (other ≡ t.1.0)) t.1.1 left said)
            (λ i. (files_are i, ((beside_is ∙ planned.beside) i, after_is i))) either)

        module _ (new : Kept) (by : TakesCopy plan.boot boot one new) where
          keeps_new : KeepsFiles after dir new
          keeps_new =
              let k = kept_framed one in_list keeps_one in
              subst (KeepsFiles after dir) (sym by.is)
              (record { release = k.release; boot = stand_new dir one.name plan.boot.slot plan.boot.set plan.files.items planned.files first })

          pub layout_copied : (now : Files) → now ≡ replaced beside name bytes (written files first) → IsLayout now dir (entries_of (set old at new))
          layout_copied now now_is = subst (λ (now : Files). IsLayout now dir (entries_of (set old at new))) (sym (now_is ∙ after_is)) (subst (IsLayout after dir) (sym (entries_set boot new by)) commit_is.after)

          pub sets_copied : (now : Files) → now ≡ replaced beside name bytes (written files first) → AreSetsOfAll now dir (entries_of (set old at new)) (all_sets_of (set old at new))
          sets_copied now now_is = subst (λ (now : Files). AreSetsOfAll now dir (entries_of (set old at new)) (all_sets_of (set old at new))) (sym (now_is ∙ after_is))
              (all_kept after dir (set old at new) (All-set (KeepsFiles after dir) old at new keeps_new keeps_after))
