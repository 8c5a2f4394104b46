-- One flag of a container is made anew in its boot copy: what is written of it.
use Rattle.std.proofs.Common.{◌≡◌, ◌⊎◌, ℕ, ◌<◌, List, [], ◌∷◌, get_or, length, set, Option, None, Some, option_map, Result, Ok, Err, refl, sym, ap, subst, ◌∙◌, arith, string_bytes}
use Rattle.std.specs.Prelude.{IfOk}
use Rattle.std.specs.FinMap.{get}
use Rattle.std.proofs.lemmas.List.{get_or_default}
use Rattle.std.proofs.lemmas.List.Elements.{All-get_or}
use Rattle.acfg_base.specs.Release.{Key}
use Rattle.acfg_commit.specs.declared.several.NewFile.{NewFile}
use Rattle.acfg_commit.specs.Written.{IsNameAmong, replaced, written}
use Rattle.acfg_device.specs.Left.{IsEither}
use Rattle.acfg_device.specs.Panel.{Files}
use Rattle.acfg_images.specs.declared.fault.FileType.{FileType}
use Rattle.acfg_images.specs.Files as four
use Rattle.acfg_model.specs.State.{BootMap, Container, IsValidContainer}
use Rattle.acfg_model.specs.Step.{IsRenewable, renewed, renewed_flag, with_flag}
use Rattle.acfg_model.proofs.Valid.{IsValidContainer-renewed}
use Rattle.acfg_store.specs.Commits.{IsEitherState, LeavesState}
use Rattle.acfg_store.specs.declared.booting.CopyPlan.{CopyPlan}
use Rattle.acfg_store.specs.declared.containers.BootSlot.{BootSlot}
use Rattle.acfg_store.specs.declared.containers.Kept.{Kept}
use Rattle.acfg_store.specs.declared.names.Part.TheVariants.{Boot}
use Rattle.acfg_store.specs.Applied.{IsOpen}
use Rattle.acfg_store.specs.BootPlans.{IsCopyPlan, IsRenewalPlan, IsRenewedBy, LeavesRenewed, TakesCopy, named_slot, renewed_at, renewed_entry, spare_slot, with_copy}
use Rattle.acfg_store.specs.Kept.{HasCopy, IsCopied, IsCopySet, entry_of}
use Rattle.acfg_store.specs.Names.{IsOfDirectory, path}
use Rattle.acfg_store.specs.Opening.{AreKept, entries_of}
use Rattle.acfg_store.specs.Renewing.{IsCopyWith, TakesFlag, renewed_boot}
use Rattle.acfg_store.specs.Sets.{IsBootSet}
use Rattle.acfg_store.specs.Stands.{Booted, Entry, HoldsBoot}
use Rattle.acfg_store.specs.Updated.{view_of}
use Rattle.acfg_store.proofs.CopyCommitted.{copy_apart, copy_leaves, copy_own, entries_set, holds_one, keeps_one, kept_copied, kept_valid, layout_copied, one_at, sets_copied}
use Rattle.acfg_store.proofs.Lying.{one_files}

some_kept : (old : List Kept) (at : ℕ) → at < length old → Kept
some_kept [] at within = absurd (omega (arith, within))
some_kept (one ∷ rest) at within = one

module _ (dir : List ℕ) (old : List Kept) (kept : AreKept old) (at : ℕ) (within : at < length old) (key : Key) (plan : CopyPlan) (plans : (one : Kept) → IsRenewalPlan dir (get_or old at one) key plan) (renewable : (one : Kept) → IsRenewable (get_or old at one).container.boot key) where
  abbrev one : Kept
  one = get_or old at (some_kept old at within)

  is : one ≡ get_or old at one
  is = get_or_default old at (some_kept old at within) one within

  planned : IsRenewalPlan dir one key plan
  planned = plans (some_kept old at within)

  abbrev boot : BootMap
  boot = renewed_boot one.container key planned.boot

  renewed_is : renewed one.container key ≡ record one.container { boot = Some boot }
  renewed_is = ap (λ (b : Option BootMap). record one.container { boot = option_map (λ (m : BootMap). with_flag m key (renewed_flag one.container key (get m key))) b }) planned.boot_is

  valid : IsValidContainer (record one.container { boot = Some boot })
  valid = subst IsValidContainer renewed_is (IsValidContainer-renewed one.container (kept_valid old kept at within one is) key (renewable (some_kept old at within)))

  -- the files that are kept are those of the boot copy
  copied_one : IsCopySet planned.was.set planned.boot
  copied_one = subst (λ (both : Option BootSlot × Option BootMap). HasCopy (option_map (λ (b : BootSlot). b.set) both.0) both.1) (λ i. (planned.was_is i, planned.boot_is i))
      (subst IsCopied (sym is) (All-get_or IsCopied old at one within kept.copied))

  pub renewal_own : (files : List NewFile) (beside name : List ℕ) → files ≡ plan.files.items → beside ≡ string_bytes plan.beside → name ≡ string_bytes plan.pointer
      → (other : List ℕ) → IsNameAmong files other ⊎ ((other ≡ beside) ⊎ (other ≡ name)) → IsOfDirectory dir other
  renewal_own = copy_own dir old kept at within one is plan planned.writes

  pub renewal_apart : (beside name : List ℕ) → beside ≡ string_bytes plan.beside → name ≡ string_bytes plan.pointer → beside ≡ name → ⊥
  renewal_apart = copy_apart dir old kept at within one is plan planned.writes

  later_is : (other : Entry) → set (entries_of old) at (with_copy (entry_of one) boot) ≡ renewed_at (entries_of old) at key other
  later_is other =
      ap (λ (c : Container). set (entries_of old) at (record (entry_of one) { boot_slot = Some (spare_slot (entry_of one).boot_slot); container = c })) (sym renewed_is)
      ∙ ap (λ (e : Entry). set (entries_of old) at (renewed_entry e key)) (one_at dir old kept at within one is plan planned.writes other)

  module _ (mine : Kept) (mine_is : mine ≡ get_or old at mine) (new : Kept) (by : IsRenewedBy plan.boot key mine new) where
    same : mine ≡ one
    same = mine_is ∙ get_or_default old at mine (some_kept old at within) within

    takes : TakesCopy plan.boot boot one new
    takes = record {
      is = by.is ∙ ap (λ (k : Kept). record k { container = renewed k.container key; boot = Some plan.boot }) same
          ∙ ap (λ (c : Container). record one { container = c; boot = Some plan.boot }) renewed_is;
      valid = by.valid;
    }

    pub entries_renewed : (other : Entry) → entries_of (set old at new) ≡ renewed_at (entries_of old) at key other
    entries_renewed other = entries_set dir old kept at within one is plan planned.writes boot new takes ∙ later_is other

    pub kept_renewed : AreKept (set old at new)
    kept_renewed = kept_copied dir old kept at within one is plan planned.writes boot new takes (copied_one.0, planned.set copied_one.0 copied_one.1)

  module _ (first : Files) (opened : IsOpen first (view_of dir old)) where
    copy : IsCopyWith plan.boot.set one.name boot
    copy =
        let holds = holds_one dir old kept at within one is plan planned.writes first opened.layout opened.kept in
        let keeps = keeps_one dir old kept at within one is plan planned.writes first opened.layout opened.kept in
        let held : HoldsBoot first dir one.name planned.was.slot planned.boot =
        subst (λ (both : Option BootSlot × Option BootMap). Booted first dir one.name (option_map (λ (b : BootSlot). b.slot) both.0) both.1) (λ i. (planned.was_is i, planned.boot_is i)) holds.boot in
        let stands = subst (λ (b : Option BootSlot). IsBootSet first dir one.name (option_map (λ (b : BootSlot). b.slot) b) (option_map (λ (b : BootSlot). b.set) b)) planned.was_is keeps.boot in
        let same : held.set ≡ planned.was.set = one_files first (λ (file : FileType). path dir one.name (Boot planned.was.slot file)) held.set planned.was.set held.stand stands in
        planned.set one.name (subst (λ (s : four.Files). IsCopyWith s one.name planned.boot) same held.is_set)

    module _ (files : List NewFile) (beside name bytes : List ℕ) (files_are : files ≡ plan.files.items) (beside_is : beside ≡ string_bytes plan.beside) (name_is : name ≡ string_bytes plan.pointer) (bytes_are : bytes ≡ plan.bytes.items) where
      pub renewal_leaves : (spoken : List ℕ) (left : Files) (said : List ℕ)
          → IsEither first spoken (λ other. IsNameAmong files other ⊎ (other ≡ beside)) (replaced beside name bytes (written files first)) left said
          → LeavesRenewed first spoken dir (entries_of old) at key left said
      renewal_leaves spoken left said either other =
          subst (λ (later : List Entry). LeavesState first spoken dir (IsEitherState (entries_of old) later) left said) (later_is other)
          (copy_leaves dir old kept at within one is plan planned.writes first opened.layout opened.kept boot copy valid files beside name bytes files_are beside_is name_is bytes_are spoken left said either)

      pub open_renewed : (mine : Kept) → mine ≡ get_or old at mine → (new : Kept) → IsRenewedBy plan.boot key mine new → (now : Files) → now ≡ replaced beside name bytes (written files first) → IsOpen now (view_of dir (set old at new))
      open_renewed mine mine_is new by now now_is = record {
        layout = layout_copied dir old kept at within one is plan planned.writes first opened.layout opened.kept boot copy valid files beside name bytes files_are beside_is name_is bytes_are new (takes mine mine_is new by) now now_is;
        kept = sets_copied dir old kept at within one is plan planned.writes first opened.layout opened.kept boot copy valid files beside name bytes files_are beside_is name_is bytes_are new (takes mine mine_is new by) now now_is;
      }

-- ---- the plan

module _ (one : Kept) (key : Key) (was : BootSlot) (is : one.boot ≡ Some was) (copied : IsCopied one) (renewable : IsRenewable one.container.boot key) where
  copied_as : (found : Option BootMap) → one.container.boot ≡ found → HasCopy (Some was.set) found
  copied_as found there = subst (λ (both : Option BootSlot × Option BootMap). HasCopy (option_map (λ (b : BootSlot). b.set) both.0) both.1) (λ i. (is i, there i)) copied

  renewable_as : (found : Option BootMap) → one.container.boot ≡ found → IsRenewable found key
  renewable_as found there = subst (λ (b : Option BootMap). IsRenewable b key) there renewable

  pub takes_flag : TakesFlag was.set key
  takes_flag = go one.container.boot (copied_as one.container.boot refl) renewable
    where
      go : (boot : Option BootMap) → HasCopy (Some was.set) boot → IsRenewable boot key → TakesFlag was.set key
      go None copied renewable = absurd copied
      go (Some found) copied renewable = record { name = copied.0; boot = found; copy = copied.1; renewable = renewable }

  module _ (dir : List ℕ) (set : four.Files) (renews : (name : List ℕ) (boot : BootMap) → IsCopyWith was.set name boot → IsRenewable (Some boot) key → IsCopyWith set name (renewed_boot one.container key boot))
      (name : List ℕ) (name_is : name ≡ one.name) where
    plan_of : (plan : CopyPlan) → plan.boot.set ≡ set → IsCopyPlan dir name (named_slot one) plan → (boot : Option BootMap) → one.container.boot ≡ boot → HasCopy (Some was.set) boot → IsRenewalPlan dir one key plan
    plan_of plan set_is writes None there copied = absurd copied
    plan_of plan set_is writes (Some found) there copied = record {
      writes = subst (λ (n : List ℕ). IsCopyPlan dir n (named_slot one) plan) name_is writes;
      was = was;
      was_is = is;
      boot = found;
      boot_is = there;
      set = λ name copy. subst (λ (s : four.Files). IsCopyWith s name (renewed_boot one.container key found)) (sym set_is) (renews name found copy (renewable_as (Some found) there));
    }

    pub renewal_planned : {E : Type 0} (result : Result CopyPlan E) → IfOk result (λ plan. plan.boot.set ≡ set) → IfOk result (IsCopyPlan dir name (named_slot one)) → IfOk result (IsRenewalPlan dir one key)
    renewal_planned (Ok plan) set_is writes = plan_of plan set_is writes one.container.boot refl (copied_as one.container.boot refl)
    renewal_planned (Err fault) set_is writes = tt
