-- A container that is kept takes another release: what state the containers make then, and that its new slots were free.
use Rattle.std.proofs.Common.{◌≡◌, ℕ, ◌<◌, true, false, List, map, get_or, set, Some, bytes_eq, refl, sym, ap, ◌∙◌, subst, arith}
use Rattle.std.specs.Prelude.{All, Contains}
use Rattle.std.specs.FinMap.{get, insert, len}
use Rattle.std.proofs.lemmas.List.{get_or-map, get_or-set_same, get_or_default, length-map, length-set, map-set}
use Rattle.std.proofs.lemmas.List.Elements.{All-contains, All-get_or, All-set}
use Rattle.acfg_base.specs.Names.{IsContainer}
use Rattle.acfg_base.specs.Places.{StandsAt}
use Rattle.acfg_base.specs.Release.{ReleaseMap}
use Rattle.acfg_device.specs.Panel.{Files}
use Rattle.acfg_model.specs.declared.requests.Reply.TheVariants.{Unchanged, Updated}
use Rattle.acfg_model.specs.State.{State, name_cmp}
use Rattle.acfg_model.specs.Step.{with_release}
use Rattle.acfg_model.proofs.Kept.{name_exact, pair_of, release_step-same, release_step-with_release}
use Rattle.acfg_store.specs.declared.containers.Kept.{Kept}
use Rattle.acfg_store.specs.declared.installing.Incoming.{Incoming}
use Rattle.acfg_store.specs.declared.names.Part.{Part}
use Rattle.acfg_store.specs.declared.names.Part.TheVariants.{Records, NewRecords, Release, Override, Pointer, NewPointer, Boot}
use Rattle.acfg_store.specs.declared.names.Slot.{Slot}
use Rattle.acfg_store.specs.declared.names.Slot.TheVariants.{Zero, One}
use Rattle.acfg_store.specs.Applied.{IsOpen}
use Rattle.acfg_store.specs.Kept.{HasCopy, IsCopied, IsIndexed, entry_of, kept_name, sets_of}
use Rattle.acfg_store.specs.Names.{path}
use Rattle.acfg_store.specs.Opening.{AreKept, KeepsFiles, entries_of}
use Rattle.acfg_store.specs.Records.{AreRecords}
use Rattle.acfg_store.specs.Sets.{IsBootSet, Sets}
use Rattle.acfg_store.specs.Stands.{Booted, Entry, Holds, IsUsed, Uses, entry_name, recorded, state_of}
use Rattle.acfg_store.specs.Turned.{other_slot}
use Rattle.acfg_store.specs.Updated.{IsReleaseOf, IsSlotPart, IsTaken, outcome_of, view_of, with_update}
use Rattle.acfg_store.proofs.Entering.{Valid, set_lawful, set_listed, set_valid, state_at, state_set}
use Rattle.acfg_store.proofs.Opened.{entries_in_order}
use Rattle.acfg_store.proofs.Renewed.{contains_map, keeps_each}
use Rattle.acfg_store.proofs.Unused.{not_used}

other_apart : (slot : Slot) → other_slot slot ≡ slot → ⊥
other_apart Zero same = cc
other_apart One same = cc

-- the new slots are none that the container uses
fresh_slots : (entry : Entry) (digest : List ℕ) (release : ReleaseMap) (part : Part) → IsSlotPart (with_update entry digest release) part → Uses entry part → ⊥
fresh_slots entry digest release Records is uses = is
fresh_slots entry digest release NewRecords is uses = is
fresh_slots entry digest release (Release slot file) is uses = other_apart entry.release_slot (sym is ∙ uses)
fresh_slots entry digest release (Override slot file) is uses = other_apart entry.override_slot (sym is.0 ∙ uses.0)
fresh_slots entry digest release Pointer is uses = is
fresh_slots entry digest release NewPointer is uses = is
fresh_slots entry digest release (Boot slot file) is uses = is

pub slot_no_list : (entry : Entry) (part : Part) → IsSlotPart entry part → part ≡ Records → ⊥
slot_no_list entry part is same = subst (IsSlotPart entry) same is

pub indexed : (one : Kept) → IsReleaseOf one → IsIndexed one
indexed one of = record { parts = of.parts; is_set = of.is_set; are = of.indexes_are; count_is = of.count_is; release_is = of.release_is }

module _ (kept : List Kept) (are : AreKept kept) (name : List ℕ) (at : ℕ) (stands : StandsAt name_cmp kept_name kept name at) (was : Kept) (was_is : was ≡ get_or kept at was) where
  pub was_name : was.name ≡ name
  was_name = ap kept_name was_is ∙ name_exact _ _ (stands.same was)

  entry_is : (d : Entry) → get_or (entries_of kept) at d ≡ entry_of was
  entry_is d = get_or-map entry_of kept at was d stands.within ∙ ap entry_of (sym was_is)

  entry_stands : StandsAt name_cmp entry_name (entries_of kept) name at
  entry_stands = record {
    within = omega (arith, stands.within, length-map kept entry_of);
    same = λ d. ap (λ (e : Entry). name_cmp e.name name) (get_or-map entry_of kept at was d stands.within) ∙ stands.same was;
  }

  was_in : Contains kept was
  was_in = (at, stands.within, sym was_is)

  there : get (state_of (entries_of kept)) name ≡ Some was.container
  there = state_at (entries_of kept) are.listed are.valid name at entry_stands (entry_of was) ∙ ap (λ (e : Entry). Some e.container) (entry_is (entry_of was))

  module _ (incoming : Incoming) where
    -- the same digest changes nothing
    pub step_same : bytes_eq was.container.digest incoming.digest ≡ true → outcome_of kept name incoming ≡ pair_of (state_of (entries_of kept)) Unchanged
    step_same same = release_step-same (state_of (entries_of kept)) name incoming.digest incoming.release was.container there same

    module _ (one : Kept) (taken : IsTaken was incoming one) where
      pub same : (entry_of one).name ≡ name
      same = ap (λ (e : Entry). e.name) taken.entry ∙ was_name

      entries_set : entries_of (set kept at one) ≡ set (entries_of kept) at (entry_of one)
      entries_set = map-set entry_of kept at one

      one_copied : IsCopied one
      one_copied = subst (λ (both : Entry × Sets). HasCopy both.1.boot both.0.container.boot) (λ i. (sym taken.entry i, sym taken.sets i))
          (subst IsCopied (sym was_is) (All-get_or IsCopied kept at was stands.within are.copied))

      pub known_kept : AreKept (set kept at one)
      known_kept = record {
        listed = subst (λ (es : List Entry). AreRecords (map recorded es)) (sym entries_set) (set_listed (entries_of kept) are.listed are.valid name at entry_stands (entry_of one) same taken.valid);
        valid = subst (All Valid) (sym entries_set) (set_valid (entries_of kept) are.listed are.valid name at entry_stands (entry_of one) same taken.valid);
        indexed = All-set IsIndexed kept at one (indexed one taken.release) are.indexed;
        copied = All-set IsCopied kept at one one_copied are.copied;
      }

      pub lawful_of : IsContainer (kept_name one)
      lawful_of = (set_lawful (entries_of kept) are.listed are.valid name at entry_stands (entry_of one) same taken.valid).name

      pub known_there : Contains (set kept at one) one
      known_there = (at, subst (λ (n : ℕ). at < n) (sym (length-set kept at one)) stands.within, get_or-set_same kept at one one stands.within)

      pub known_rest : All (λ (other : Kept). (kept_name other ≡ kept_name one → ⊥) → Contains kept other) (set kept at one)
      known_rest = All-set (λ (other : Kept). (kept_name other ≡ kept_name one → ⊥) → Contains kept other) kept at one (λ apart. absurd (apart refl))
          (λ k d within apart. (k, within, get_or_default kept k (get_or kept k d) d within))

      pub step_known : bytes_eq was.container.digest incoming.digest ≡ false → outcome_of kept name incoming ≡ pair_of (state_of (entries_of (set kept at one))) (Updated incoming.digest (len incoming.release))
      step_known apart =
          let made : state_of (entries_of (set kept at one)) ≡ insert (state_of (entries_of kept)) name (with_release was.container incoming.digest incoming.release) =
          ap state_of entries_set ∙ state_set (entries_of kept) are.listed are.valid name at entry_stands (entry_of one) same taken.valid
          ∙ ap (λ (e : Entry). insert (state_of (entries_of kept)) name e.container) taken.entry in
          release_step-with_release (state_of (entries_of kept)) name incoming.digest incoming.release was.container there apart
          ∙ ap (λ (s : State). pair_of s (Updated incoming.digest (len incoming.release))) (sym made)

      module _ (dir : List ℕ) where
        pub known_unused : (part : Part) → IsSlotPart (entry_of one) part → IsUsed dir (entries_of kept) (path dir (kept_name one) part) → ⊥
        known_unused = subst (λ (e : Entry). (part : Part) → IsSlotPart e part → IsUsed dir (entries_of kept) (path dir e.name part) → ⊥) (sym taken.entry)
            (λ part is used. not_used dir (entries_of kept) (entries_in_order (entries_of kept) are.listed are.valid) (entry_of was) (contains_map entry_of kept was was_in) part
            (slot_no_list (with_update (entry_of was) incoming.digest incoming.release) part is) (fresh_slots (entry_of was) incoming.digest incoming.release part is) used)

        module _ (first : Files) (was_open : IsOpen first (view_of dir kept)) where
          held : Holds first dir (entry_of was)
          held = All-contains (Holds first dir) (entries_of kept) (entry_of was) was_open.layout.lies.each (contains_map entry_of kept was was_in)

          pub known_booted : Booted first dir (kept_name one) (entry_of one).boot_slot one.container.boot
          known_booted = subst (λ (e : Entry). Booted first dir e.name e.boot_slot e.container.boot) (sym taken.entry) held.boot

          pub known_boot_set : IsBootSet first dir (kept_name one) (entry_of one).boot_slot (sets_of one).boot
          known_boot_set = subst (λ (both : Entry × Sets). IsBootSet first dir both.0.name both.0.boot_slot both.1.boot) (λ i. (sym taken.entry i, sym taken.sets i))
              (All-contains (KeepsFiles first dir) kept was (keeps_each first dir kept was_open.kept) was_in).boot
