-- The commit of an update: what it leaves after success, and what a cut of it leaves.
use Rattle.std.proofs.Common.{◌≡◌, ◌⊎◌, ℕ, List, [], Ok, Err, map, sym, ◌∙◌, subst, ⊎_elim}
use Rattle.std.specs.Prelude.{All, Contains}
use Rattle.acfg_base.specs.Names.{IsContainer}
use Rattle.acfg_device.specs.Left.{IsEither}
use Rattle.acfg_device.specs.Panel.{Files}
use Rattle.acfg_commit.specs.Written.{IsNameAmong, replaced, written}
use Rattle.acfg_commit.specs.declared.several.NewFile.{NewFile}
use Rattle.acfg_model.specs.State.{State}
use Rattle.acfg_store.specs.declared.containers.Kept.{Kept}
use Rattle.acfg_store.specs.declared.names.Part.{Part}
use Rattle.acfg_store.specs.declared.names.Part.TheVariants.{Records, NewRecords}
use Rattle.acfg_store.specs.Applied.{IsBetween, IsOpen}
use Rattle.acfg_store.specs.Commits.{LeavesState}
use Rattle.acfg_store.specs.Kept.{entry_of, kept_name, sets_of}
use Rattle.acfg_store.specs.Names.{IsOfDirectory, path}
use Rattle.acfg_store.specs.Opening.{AreKept, entries_of}
use Rattle.acfg_store.specs.Records.{records_bytes}
use Rattle.acfg_store.specs.Sets.{IsBootSet}
use Rattle.acfg_store.specs.Stands.{Booted, IsUsed, recorded, state_of}
use Rattle.acfg_store.specs.Updated.{AreSlotFiles, IsReleaseOf, IsSlotPart, view_of}
use Rattle.acfg_store.proofs.Changing.{commit_leaves}
use Rattle.acfg_store.proofs.OverridesCommitted.{either_between}
use Rattle.acfg_store.proofs.Renewed as renewed
use Rattle.acfg_store.proofs.SlotsWritten.{list_own, lists_apart, new_list_own, slots_own}

-- what is Ok is no fault
pub not_fault : {A E : Type 0} (a : A) (e : E) → Ok a ≡ Err e → ⊥
not_fault a e same = cc

module _ (dir second first_name : List ℕ) (second_is : second ≡ path dir [] NewRecords) (list_is : first_name ≡ path dir [] Records) where
  pub names_apart : second ≡ first_name → ⊥
  names_apart same = lists_apart dir (sym second_is ∙ same ∙ list_is)

  pub own_of : (one : Kept) (of : IsReleaseOf one) (slots files : List NewFile) → files ≡ slots → AreSlotFiles dir (entry_of one) one.release of.parts slots → IsContainer (kept_name one)
      → (other : List ℕ) → IsNameAmong files other ⊎ ((other ≡ second) ⊎ (other ≡ first_name)) → IsOfDirectory dir other
  own_of one of slots files files_are are lawful other =
      ⊎_elim (λ is. slots_own dir (entry_of one) one.release of.parts slots are lawful other (subst (λ (fs : List NewFile). IsNameAmong fs other) files_are is))
      (⊎_elim (λ same. new_list_own dir other (same ∙ second_is)) (λ same. list_own dir other (same ∙ list_is)))

  module _ (kept later : List Kept) (one : Kept) (first : Files) (was_open : IsOpen first (view_of dir kept)) (are : AreKept later) (there : Contains later one)
      (rest : All (λ (other : Kept). (kept_name other ≡ kept_name one → ⊥) → Contains kept other) later) (of : IsReleaseOf one)
      (slots : List NewFile) (slots_are : AreSlotFiles dir (entry_of one) one.release of.parts slots)
      (booted : Booted first dir (kept_name one) (entry_of one).boot_slot one.container.boot) (boot_set : IsBootSet first dir (kept_name one) (entry_of one).boot_slot (sets_of one).boot)
      (unused : (part : Part) → IsSlotPart (entry_of one) part → IsUsed dir (entries_of kept) (path dir (kept_name one) part) → ⊥)
      (files : List NewFile) (files_are : files ≡ slots) (bytes : List ℕ) (bytes_are : bytes ≡ records_bytes (map recorded (entries_of later))) where
    abbrev pub New : Files
    New = renewed.New dir kept later one first was_open are there rest of slots slots_are booted boot_set unused

    abbrev pub Spare : List ℕ → Type 0
    Spare = renewed.Spare dir kept later one first was_open are there rest of slots slots_are booted boot_set unused

    abbrev pub After : Files
    After = replaced second first_name bytes (written files first)

    after_is : After ≡ New
    after_is = λ i. replaced (second_is i) (list_is i) (bytes_are i) (written (files_are i) first)

    pub opened_after : (now : Files) → now ≡ After → IsOpen now (view_of dir later)
    opened_after now is = subst (λ (f : Files). IsOpen f (view_of dir later)) (sym (is ∙ after_is)) (renewed.opened dir kept later one first was_open are there rest of slots slots_are booted boot_set unused)

    pub cut_leaves : (spoken : List ℕ) (new : State) → new ≡ state_of (entries_of later) → (left : Files) (said : List ℕ)
        → IsEither first spoken (λ (other : List ℕ). IsNameAmong files other ⊎ (other ≡ second)) After left said → LeavesState first spoken dir (IsBetween (state_of (entries_of kept)) new) left said
    cut_leaves spoken new same left said either =
        either_between first spoken dir (state_of (entries_of kept)) (state_of (entries_of later)) new left said same
        (commit_leaves dir (entries_of kept) (entries_of later) Spare first New spoken left said
        (renewed.committed dir kept later one first was_open are there rest of slots slots_are booted boot_set unused)
        (subst (λ (t : List NewFile × (List ℕ × Files)). IsEither first spoken (λ (other : List ℕ). IsNameAmong t.0 other ⊎ (other ≡ t.1.0)) t.1.1 left said)
        (λ i. (files_are i, (second_is i, after_is i))) either))
