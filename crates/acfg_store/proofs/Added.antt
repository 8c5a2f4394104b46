-- A new container takes its place among those that are kept: what state they make then, and that its names were free.
use Rattle.std.proofs.Common.{◌≡◌, ⊎_elim, ◌⊎◌, ℕ, ◌<◌, ◌≤◌, List, [], ◌∷◌, map, get_or, length, None, inl, inr, refl, sym, ap, ◌∙◌, subst, arith}
use Rattle.std.specs.Prelude.{All, Contains}
use Rattle.std.specs.FinMap.{get, insert, len}
use Rattle.std.specs.List as lists
use Rattle.std.specs.Map.{update}
use Rattle.std.specs.Str.{bytes_eq}
use Rattle.std.proofs.lemmas.List.{get_or-map, get_or_default, length-map}
use Rattle.std.proofs.lemmas.List.Edits.{get_or-insert_at, length-insert}
use Rattle.acfg_base.specs.Names.{IsContainer}
use Rattle.acfg_base.specs.Places.{WouldStandAt}
use Rattle.acfg_device.specs.Left.{IsEither}
use Rattle.acfg_device.specs.Panel.{Files}
use Rattle.acfg_device.proofs.Naming.{update_apart, update_here}
use Rattle.acfg_model.specs.declared.requests.Reply.TheVariants.{Refused, Updated}
use Rattle.acfg_model.specs.State.{State, most_containers, name_cmp}
use Rattle.acfg_model.specs.Step.{fresh}
use Rattle.acfg_model.proofs.Kept.{pair_of, release_step-added, release_step-full}
use Rattle.acfg_store.specs.declared.containers.Kept.{Kept}
use Rattle.acfg_store.specs.declared.installing.Incoming.{Incoming}
use Rattle.acfg_store.specs.declared.names.Part.{Part}
use Rattle.acfg_store.specs.declared.names.Part.TheVariants.{Pointer}
use Rattle.acfg_store.specs.Applied.{IsBetween, IsOpen}
use Rattle.acfg_store.specs.Commits.{LeavesState}
use Rattle.acfg_store.specs.Kept.{HasCopy, IsCopied, IsIndexed, entry_of, kept_name, sets_of}
use Rattle.acfg_store.specs.Names.{path}
use Rattle.acfg_store.specs.Opening.{AreKept, entries_of}
use Rattle.acfg_store.specs.Records.{AreRecords}
use Rattle.acfg_store.specs.Sets.{IsBootSet, Sets}
use Rattle.acfg_store.specs.Stands.{Booted, Entry, IsUsed, entry_name, recorded, state_of}
use Rattle.acfg_store.specs.Updated.{IsNew, IsSlotPart, outcome_of, view_of}
use Rattle.acfg_store.proofs.Changing.{commit_leaves}
use Rattle.acfg_store.proofs.Entering.{All-insert, Valid, added_listed, added_valid, count_is, map-insert, none_named, state_absent, state_added}
use Rattle.acfg_store.proofs.Known.{indexed, slot_no_list}
use Rattle.acfg_store.proofs.Lying.{lies_frame}
use Rattle.acfg_store.proofs.Renewed.{contains_map, keeps_each}
use Rattle.acfg_store.proofs.SlotsWritten.{sets_frame}
use Rattle.acfg_store.proofs.Stored.{all_kept}
use Rattle.acfg_store.proofs.Unused.{new_not_used}

-- the files without a container's boot pointer
abbrev pub unpointed : (dir name : List ℕ) → Files → Files
unpointed dir name first = update bytes_eq first (path dir name Pointer) None

module _ (kept : List Kept) (are : AreKept kept) (name : List ℕ) (at : ℕ) (any : Kept) (gap : WouldStandAt name_cmp kept_name kept name at) where
  entry_gap : WouldStandAt name_cmp entry_name (entries_of kept) name at
  entry_gap = record {
    within = omega (arith, gap.within, length-map kept entry_of);
    before = λ j d below. ap (λ (e : Entry). name_cmp e.name name) (get_or-map entry_of kept j any d (omega (arith, below, gap.within))) ∙ gap.before j any below;
    behind = λ j d above within.
        let inside : j < length kept = omega (arith, within, length-map kept entry_of) in
        ap (λ (e : Entry). name_cmp e.name name) (get_or-map entry_of kept j any d inside) ∙ gap.behind j any above inside;
  }

  absent : get (state_of (entries_of kept)) name ≡ None
  absent = state_absent (entries_of kept) are.listed are.valid name at entry_gap

  nobody : (entry : Entry) → Contains (entries_of kept) entry → entry.name ≡ name → ⊥
  nobody = none_named (entries_of kept) are.listed are.valid name at entry_gap

  count : len (state_of (entries_of kept)) ≡ length kept
  count = count_is (entries_of kept) are.listed are.valid ∙ length-map kept entry_of

  pub step_full : (incoming : Incoming) → most_containers ≤ length kept → outcome_of kept name incoming ≡ pair_of (state_of (entries_of kept)) (Refused 11)
  step_full incoming full = release_step-full (state_of (entries_of kept)) name incoming.digest incoming.release absent (omega (arith, full, count))

  module _ (dir : List ℕ) where
    pub pointer_unused : IsUsed dir (entries_of kept) (path dir name Pointer) → ⊥
    pointer_unused used = new_not_used dir (entries_of kept) name nobody Pointer (λ e. cc) used

    module _ (first : Files) (was_open : IsOpen first (view_of dir kept)) where
      stays : (other : List ℕ) → IsUsed dir (entries_of kept) other → unpointed dir name first other ≡ first other
      stays other used = update_apart first (path dir name Pointer) None other (λ same. pointer_unused (subst (IsUsed dir (entries_of kept)) same used))

      -- without the free pointer the files are still those of the store
      pub still_open : IsOpen (unpointed dir name first) (view_of dir kept)
      still_open = record {
        layout = record { lies = lies_frame first (unpointed dir name first) dir (entries_of kept) stays was_open.layout.lies; valid = was_open.layout.valid };
        kept = all_kept (unpointed dir name first) dir kept (λ k d within.
            let one : Kept = get_or kept k d in
            sets_frame first (unpointed dir name first) dir (entry_of one) (sets_of one)
            (λ part uses. stays (path dir (kept_name one) part)
            (inr (record { entry = entry_of one; among = contains_map entry_of kept one (k, within, get_or_default kept k one d within); part = part; uses = uses; spelled = refl })))
            (keeps_each first dir kept was_open.kept k d within));
      }

      -- what a cut leaves while the pointer is removed: the old state
      pub removing_leaves : IsContainer name → (spoken : List ℕ) (new : State) (left : Files) (said : List ℕ) → IsEither first spoken (λ (other : List ℕ). other ≡ path dir name Pointer) first left said
          → LeavesState first spoken dir (IsBetween (state_of (entries_of kept)) new) left said
      removing_leaves lawful spoken new left said either =
          old (commit_leaves dir (entries_of kept) (entries_of kept) (λ (other : List ℕ). other ≡ path dir name Pointer) first first spoken left said (record {
            before = was_open.layout;
            after = was_open.layout;
            free = λ other same used. pointer_unused (subst (IsUsed dir (entries_of kept)) same used);
            own = λ other same. record { container = name; part = Pointer; lawful = lawful; spelled = same };
            others = λ other foreign. refl;
          }) either)
        where
          old : LeavesState first spoken dir (λ (state : State). (state ≡ state_of (entries_of kept)) ⊎ (state ≡ state_of (entries_of kept))) left said
              → LeavesState first spoken dir (IsBetween (state_of (entries_of kept)) new) left said
          old leaves = record { words = leaves.words; state = leaves.state; is_one = ⊎_elim (λ e. inl e) (λ e. inl e) leaves.is_one; stands = leaves.stands; others = leaves.others }

    -- what is left of the files without the pointer is left of the files before
    pub from_first : IsContainer name → (first : Files) (spoken : List ℕ) (OneOf : State → Type 0) (left : Files) (said : List ℕ) → LeavesState (unpointed dir name first) spoken dir OneOf left said
        → LeavesState first spoken dir OneOf left said
    from_first lawful first spoken OneOf left said leaves = record {
      words = leaves.words;
      state = leaves.state;
      is_one = leaves.is_one;
      stands = leaves.stands;
      others = λ other foreign. leaves.others other foreign
          ∙ update_apart first (path dir name Pointer) None other (λ same. foreign (record { container = name; part = Pointer; lawful = lawful; spelled = same }));
    }

  module _ (lawful : IsContainer name) (incoming : Incoming) (room : length kept < most_containers) (one : Kept) (new : IsNew name incoming one) where
    pub new_name : (entry_of one).name ≡ name
    new_name = ap (λ (e : Entry). e.name) new.entry

    entries_added : entries_of (lists.insert kept at one) ≡ lists.insert (entries_of kept) at (entry_of one)
    entries_added = map-insert entry_of kept at one

    entry_room : length (entries_of kept) < most_containers
    entry_room = omega (arith, room, length-map kept entry_of)

    one_copied : IsCopied one
    one_copied = subst (λ (both : Entry × Sets). HasCopy both.1.boot both.0.container.boot) (λ i. (sym new.entry i, sym new.sets i)) tt

    pub added_kept : AreKept (lists.insert kept at one)
    added_kept = record {
      listed = subst (λ (es : List Entry). AreRecords (map recorded es)) (sym entries_added) (added_listed (entries_of kept) are.listed are.valid name at entry_gap (entry_of one) new_name new.valid lawful entry_room);
      valid = subst (All Valid) (sym entries_added) (added_valid (entries_of kept) are.listed are.valid name at entry_gap (entry_of one) new_name new.valid lawful entry_room);
      indexed = All-insert IsIndexed kept at one (indexed one new.release) are.indexed;
      copied = All-insert IsCopied kept at one one_copied are.copied;
    }

    pub added_in : Contains (lists.insert kept at one) one
    added_in = (at, omega (arith, gap.within, length-insert kept at one gap.within), get_or-insert_at kept at one one gap.within)

    pub added_others : All (λ (other : Kept). (kept_name other ≡ kept_name one → ⊥) → Contains kept other) (lists.insert kept at one)
    added_others = All-insert (λ (other : Kept). (kept_name other ≡ kept_name one → ⊥) → Contains kept other) kept at one (λ apart. absurd (apart refl))
        (λ k d within apart. (k, within, get_or_default kept k (get_or kept k d) d within))

    pub step_added : outcome_of kept name incoming ≡ pair_of (state_of (entries_of (lists.insert kept at one))) (Updated incoming.digest (len incoming.release))
    step_added =
        let made : state_of (entries_of (lists.insert kept at one)) ≡ insert (state_of (entries_of kept)) name (fresh incoming.digest incoming.release) =
        ap state_of entries_added ∙ state_added (entries_of kept) are.listed are.valid name at entry_gap (entry_of one) new_name new.valid lawful entry_room
        ∙ ap (λ (e : Entry). insert (state_of (entries_of kept)) name e.container) new.entry in
        release_step-added (state_of (entries_of kept)) name incoming.digest incoming.release absent (omega (arith, room, count))
        ∙ ap (λ (s : State). pair_of s (Updated incoming.digest (len incoming.release))) (sym made)

    module _ (dir : List ℕ) where
      pub added_unused : (part : Part) → IsSlotPart (entry_of one) part → IsUsed dir (entries_of kept) (path dir (kept_name one) part) → ⊥
      added_unused part is used = new_not_used dir (entries_of kept) name nobody part (slot_no_list (entry_of one) part is) (subst (λ (n : List ℕ). IsUsed dir (entries_of kept) (path dir n part)) new_name used)

      module _ (first : Files) where
        pub added_booted : Booted (unpointed dir name first) dir (kept_name one) (entry_of one).boot_slot one.container.boot
        added_booted = subst (λ (e : Entry). Booted (unpointed dir name first) dir e.name e.boot_slot e.container.boot) (sym new.entry) (update_here first (path dir name Pointer) None)

        pub added_boot_set : IsBootSet (unpointed dir name first) dir (kept_name one) (entry_of one).boot_slot (sets_of one).boot
        added_boot_set = subst (λ (both : Entry × Sets). IsBootSet (unpointed dir name first) dir both.0.name both.0.boot_slot both.1.boot) (λ i. (sym new.entry i, sym new.sets i)) tt

-- where no more fit, a new container is refused
pub full_refused : (kept : List Kept) → AreKept kept → (name : List ℕ) (at : ℕ) → WouldStandAt name_cmp kept_name kept name at → (incoming : Incoming) → most_containers ≤ length kept
    → outcome_of kept name incoming ≡ pair_of (state_of (entries_of kept)) (Refused 11)
full_refused [] are name at gap incoming full = absurd (omega (arith, full))
full_refused (one ∷ rest) are name at gap incoming full = step_full (one ∷ rest) are name at one gap incoming full
