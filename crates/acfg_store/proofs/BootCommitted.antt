-- A boot of one container: what it writes is the boot copy that the container makes.
use Rattle.std.proofs.Common.{◌≡◌, ◌⊎◌, ℕ, ◌<◌, List, length, get_or, set, inl, refl, sym, ap, subst, ◌∙◌, string_bytes}
use Rattle.std.proofs.lemmas.List.Elements.{All-get_or}
use Rattle.acfg_commit.specs.declared.several.NewFile.{NewFile}
use Rattle.acfg_commit.specs.Written.{IsNameAmong, replaced, written}
use Rattle.acfg_device.specs.Account.{Account}
use Rattle.acfg_device.specs.Disk.{IsSettled, told}
use Rattle.acfg_device.specs.Left.{IsEither, LeavesSince}
use Rattle.acfg_device.specs.Panel.{Files}
use Rattle.acfg_device.proofs.Runs.{at_rest}
use Rattle.acfg_images.specs.declared.fault.FileType.{FileType}
use Rattle.acfg_images.specs.declared.purpose.Use.TheVariants as purpose
use Rattle.acfg_images.specs.Files as four
use Rattle.acfg_images.specs.Set.{IsSetOf, SetParts}
use Rattle.acfg_model.specs.State.{BootMap, IsValidContainer}
use Rattle.acfg_model.specs.Step.{boot_map, booted}
use Rattle.acfg_model.proofs.Valid.{IsValidContainer-booted}
use Rattle.acfg_store.specs.declared.booting.BootPlan.{BootPlan}
use Rattle.acfg_store.specs.declared.containers.Kept.{Kept}
use Rattle.acfg_store.specs.declared.names.Part.TheVariants.{Release}
use Rattle.acfg_store.specs.Applied.{IsOpen}
use Rattle.acfg_store.specs.BootPlans.{IsBootPlan, IsBootedBy, LeavesBooted, booted_at, with_copy}
use Rattle.acfg_store.specs.Commits.{IsLayout, IsEitherState, LeavesState}
use Rattle.acfg_store.specs.Kept.{IsIndexed, entry_of}
use Rattle.acfg_store.specs.Names.{IsOfDirectory, path}
use Rattle.acfg_store.specs.Opening.{AreKept, all_sets_of, entries_of}
use Rattle.acfg_store.specs.Renewing.{IsCopyWith}
use Rattle.acfg_store.specs.Sets.{AreSetsOfAll}
use Rattle.acfg_store.specs.Stands.{Entry, state_of}
use Rattle.acfg_store.specs.Store.{StoreView}
use Rattle.acfg_store.proofs.CopyCommitted.{copy_apart, copy_leaves, copy_own, entries_set, holds_one, keeps_one, kept_copied, kept_valid, layout_copied, one_at, sets_copied}
use Rattle.acfg_store.proofs.Lying.{one_files}
use Rattle.acfg_store.proofs.Opened.{layout_stands}

module _ (dir : List ℕ) (old : List Kept) (kept : AreKept old) (at : ℕ) (within : at < length old) (one : Kept) (is : one ≡ get_or old at one) (plan : BootPlan) (planned : IsBootPlan dir one plan) where
  abbrev boot : BootMap
  boot = boot_map one.container

  -- all names that are written are of the directory
  pub booted_own : (files : List NewFile) (beside name : List ℕ) → files ≡ plan.writes.files.items → beside ≡ string_bytes plan.writes.beside → name ≡ string_bytes plan.writes.pointer
      → (other : List ℕ) → IsNameAmong files other ⊎ ((other ≡ beside) ⊎ (other ≡ name)) → IsOfDirectory dir other
  booted_own = copy_own dir old kept at within one is plan.writes planned.writes

  pub booted_apart : (beside name : List ℕ) → beside ≡ string_bytes plan.writes.beside → name ≡ string_bytes plan.writes.pointer → beside ≡ name → ⊥
  booted_apart = copy_apart dir old kept at within one is plan.writes planned.writes

  later_is : (other : Entry) → set (entries_of old) at (with_copy (entry_of one) boot) ≡ booted_at (entries_of old) at other
  later_is other = ap (λ (e : Entry). set (entries_of old) at (with_copy e (boot_map e.container))) (one_at dir old kept at within one is plan.writes planned.writes other)

  valid : IsValidContainer (booted one.container)
  valid = IsValidContainer-booted one.container (kept_valid old kept at within one is)

  module _ (new : Kept) (by : IsBootedBy plan.writes.boot one new) where
    pub entries_booted : (other : Entry) → entries_of (set old at new) ≡ booted_at (entries_of old) at other
    entries_booted other = entries_set dir old kept at within one is plan.writes planned.writes boot new by ∙ later_is other

    pub kept_booted : AreKept (set old at new)
    kept_booted =
        let indexed : IsIndexed one = subst IsIndexed (sym is) (All-get_or IsIndexed old at one within kept.indexed) in
        kept_copied dir old kept at within one is plan.writes planned.writes boot new by (indexed.parts.package_map.container, planned.set indexed.parts indexed.is_set)

  module _ (first : Files) (layout : IsLayout first dir (entries_of old)) (sets : AreSetsOfAll first dir (entries_of old) (all_sets_of old)) where
    copy : IsCopyWith plan.writes.boot.set one.name boot
    copy =
        let holds = holds_one dir old kept at within one is plan.writes planned.writes first layout sets in
        let keeps = keeps_one dir old kept at within one is plan.writes planned.writes first layout sets in
        let parts : SetParts = holds.release.is_set.parts in
        let same : holds.release.set ≡ one.release = one_files first (λ (file : FileType). path dir one.name (Release one.release_slot file)) holds.release.set one.release holds.release.stand keeps.release in
        subst (λ (name : List ℕ). IsCopyWith plan.writes.boot.set name boot) holds.release.is_set.container_is
        (planned.set parts (subst (λ (s : four.Files). IsSetOf s purpose.Release parts) same holds.release.is_set.files_are))

    module _ (files : List NewFile) (beside name bytes : List ℕ) (files_are : files ≡ plan.writes.files.items) (beside_is : beside ≡ string_bytes plan.writes.beside) (name_is : name ≡ string_bytes plan.writes.pointer) (bytes_are : bytes ≡ plan.writes.bytes.items) where
      pub boot_leaves : (spoken : List ℕ) (left : Files) (said : List ℕ)
          → IsEither first spoken (λ other. IsNameAmong files other ⊎ (other ≡ beside)) (replaced beside name bytes (written files first)) left said
          → (other : Entry) → LeavesState first spoken dir (IsEitherState (entries_of old) (booted_at (entries_of old) at other)) left said
      boot_leaves spoken left said either other =
          subst (λ (later : List Entry). LeavesState first spoken dir (IsEitherState (entries_of old) later) left said) (later_is other)
          (copy_leaves dir old kept at within one is plan.writes planned.writes first layout sets boot copy valid files beside name bytes files_are beside_is name_is bytes_are spoken left said either)

      module _ (new : Kept) (by : IsBootedBy plan.writes.boot one new) where
        pub layout_booted : (now : Files) → now ≡ replaced beside name bytes (written files first) → IsLayout now dir (entries_of (set old at new))
        layout_booted = layout_copied dir old kept at within one is plan.writes planned.writes first layout sets boot copy valid files beside name bytes files_are beside_is name_is bytes_are new by

        pub sets_booted : (now : Files) → now ≡ replaced beside name bytes (written files first) → AreSetsOfAll now dir (entries_of (set old at new)) (all_sets_of (set old at new))
        sets_booted = sets_copied dir old kept at within one is plan.writes planned.writes first layout sets boot copy valid files beside name bytes files_are beside_is name_is bytes_are new by

-- ---- before anything is written

pub boot_rests : (account : Account) (first : Files) (store : StoreView) (at : ℕ) → first ≡ told account.now → IsSettled account.now → IsOpen first store → LeavesSince account account (LeavesBooted first account.now.said store at)
boot_rests account first store at files settled opened =
    at_rest (LeavesBooted first account.now.said store at) first account.now.said files refl settled
    (λ other. record { words = refl; state = state_of store.entries; is_one = inl refl; stands = layout_stands first store.dir store.entries opened.layout; others = λ name foreign. refl })
