use Rattle.std.proofs.Common.{ℕ, List, None, get_or, ◌≡◌, ◌⊎◌, refl, ap, subst, sym, ◌∙◌, arith}
use Rattle.std.specs.FinMap.{len}
use Rattle.std.specs.List as lists
use Rattle.std.specs.Map.{update}
use Rattle.std.specs.Str.{bytes_eq as text_eq}
use Rattle.std.proofs.lemmas.List.Edits.{get_or-insert_at}
use Rattle.acfg_base.specs.Names.{IsContainer}
use Rattle.acfg_commit.specs.Written.{IsNameAmong, replaced, written}
use Rattle.acfg_device.specs.Left.{IsEither, LeavesSince}
use Rattle.acfg_device.specs.Panel.{Files}
use Rattle.acfg_device.proofs.Moments.{joined}
use Rattle.acfg_device.proofs.OnlyThen.{rose_then}
use Rattle.acfg_model.specs.declared.requests.Reply.{Reply}
use Rattle.acfg_model.specs.declared.requests.Reply.TheVariants.{Updated}
use Rattle.acfg_model.specs.State.{State}
use Rattle.acfg_model.proofs.Kept.{pair_of}
use Rattle.acfg_store.specs.Applied.{IsBetween, IsOpen, LeavesBetween}
use Rattle.acfg_store.specs.declared.containers.Kept.{Kept}
use Rattle.acfg_store.specs.declared.names.Part.TheVariants.{Pointer}
use Rattle.acfg_store.specs.Names.{path}
use Rattle.acfg_store.specs.Opening.{AreKept, entries_of}
use Rattle.acfg_store.specs.Stands.{state_of}
use Rattle.acfg_store.specs.Updated.{AreWrites, outcome_of, view_of}
use Rattle.acfg_store.proofs.Added.{added_boot_set, added_booted, added_in, added_kept, added_others, added_unused, from_first, new_name, removing_leaves, step_added, still_open, unpointed}
use Rattle.acfg_store.proofs.Changing.{leaves_more}
use Rattle.acfg_store.proofs.OverridesCommitted.{rests}
use Rattle.acfg_store.proofs.UpdateCommitted.{cut_leaves, names_apart, not_fault, opened_after, own_of}
use Rattle.acfg_store.proofs.updating.update_new.Goals as goal

pub plan-requires-clause-kept : goal.plan-requires-clause-kept
plan-requires-clause-kept g c = subst AreKept (sym (c.deref.ensures.value ∙ c.in_ok-insert.ensures.items)) (added_kept c.args.kept.items c.requires.kept c.args.name.now c.args.at c.in_ok-one.one c.requires.gap c.as_str.ensures.lawful c.args.incoming c.requires.room c.in_ok-one.one c.in_ok-one.ensures)

pub returns-in_err-one-clause-cut : goal.returns-in_err-one-clause-cut
returns-in_err-one-clause-cut g c told settled =
    let account = g.D.Panel.account c.args.device.now in
    let first = g.D.Panel.files c.args.device.now in
    let store = view_of c.args.dir.now c.args.kept.items in
    let new : State = (outcome_of c.args.kept.items c.args.name.now c.args.incoming).0 in
    subst (λ (spoken : List ℕ). LeavesSince account account (LeavesBetween first spoken store new)) (sym (g.met.D.Panel.said_told c.args.device.now))
    (rests account first store new (g.met.D.Panel.files_told c.args.device.now) settled (c.requires.open told))

pub returns-in_err-insert-clause-cut : goal.returns-in_err-insert-clause-cut
returns-in_err-insert-clause-cut g c told settled =
    let account = g.D.Panel.account c.args.device.now in
    let first = g.D.Panel.files c.args.device.now in
    let store = view_of c.args.dir.now c.args.kept.items in
    let new : State = (outcome_of c.args.kept.items c.args.name.now c.args.incoming).0 in
    subst (λ (spoken : List ℕ). LeavesSince account account (LeavesBetween first spoken store new)) (sym (g.met.D.Panel.said_told c.args.device.now))
    (rests account first store new (g.met.D.Panel.files_told c.args.device.now) settled (c.requires.open told))

pub returns-in_err-writes-clause-cut : goal.returns-in_err-writes-clause-cut
returns-in_err-writes-clause-cut g c told settled =
    let account = g.D.Panel.account c.args.device.now in
    let first = g.D.Panel.files c.args.device.now in
    let store = view_of c.args.dir.now c.args.kept.items in
    let new : State = (outcome_of c.args.kept.items c.args.name.now c.args.incoming).0 in
    subst (λ (spoken : List ℕ). LeavesSince account account (LeavesBetween first spoken store new)) (sym (g.met.D.Panel.said_told c.args.device.now))
    (rests account first store new (g.met.D.Panel.files_told c.args.device.now) settled (c.requires.open told))

pub returns-in_err-pointer-clause-cut : goal.returns-in_err-pointer-clause-cut
returns-in_err-pointer-clause-cut g c told settled =
    let account = g.D.Panel.account c.args.device.now in
    let first = g.D.Panel.files c.args.device.now in
    let store = view_of c.args.dir.now c.args.kept.items in
    let new : State = (outcome_of c.args.kept.items c.args.name.now c.args.incoming).0 in
    subst (λ (spoken : List ℕ). LeavesSince account account (LeavesBetween first spoken store new)) (sym (g.met.D.Panel.said_told c.args.device.now))
    (rests account first store new (g.met.D.Panel.files_told c.args.device.now) settled (c.requires.open told))

pub returns-in_err-remove_synced-clause-changes : goal.returns-in_err-remove_synced-clause-changes
returns-in_err-remove_synced-clause-changes g c =
    let pointer_is : c.as_str-2.result.now ≡ path c.args.dir.now c.args.name.now Pointer = c.as_str-2.ensures.value ∙ c.in_ok-pointer.ensures ∙ ap (λ (n : List ℕ). path c.args.dir.now n Pointer) c.as_str.ensures.text in
    let changes = c.in_err-remove_synced.ensures.changes in
    record {
      others = λ other foreign. changes.others other (λ same. foreign (record { container = c.args.name.now; part = Pointer; lawful = c.as_str.ensures.lawful; spelled = same ∙ pointer_is }));
      said = changes.said;
      count = changes.count;
      failed = λ _. changes.failed refl;
    }

pub returns-in_err-remove_synced-clause-cut : goal.returns-in_err-remove_synced-clause-cut
returns-in_err-remove_synced-clause-cut g c told settled =
    let pointer_is : c.as_str-2.result.now ≡ path c.args.dir.now c.args.name.now Pointer = c.as_str-2.ensures.value ∙ c.in_ok-pointer.ensures ∙ ap (λ (n : List ℕ). path c.args.dir.now n Pointer) c.as_str.ensures.text in
    let first = g.D.Panel.files c.args.device.now in
    let was_open = c.requires.open told in
    let spoken = g.D.Panel.said c.args.device.now in
    let start = g.D.Panel.account c.args.device.now in
    let new : State = (outcome_of c.args.kept.items c.args.name.now c.args.incoming).0 in
    leaves_more start (g.D.Panel.account c.remove_synced.new.device) (IsEither first spoken (λ (other : List ℕ). other ≡ c.as_str-2.result.now) first) (LeavesBetween first spoken (view_of c.args.dir.now c.args.kept.items) new)
    (λ left said is. removing_leaves c.args.kept.items c.requires.kept c.args.name.now c.args.at c.in_ok-one.one c.requires.gap c.args.dir.now first was_open c.as_str.ensures.lawful spoken new left said (subst (λ (n : List ℕ). IsEither first spoken (λ (other : List ℕ). other ≡ n) first left said) pointer_is is))
    (c.in_err-remove_synced.ensures.cut told settled)

pub commit-requires : goal.commit-requires
commit-requires g c =
    let item_is : c.index.result.now ≡ c.in_ok-one.one = c.index.ensures ∙ ap (λ (l : List Kept). get_or l c.args.at c.index.result.now) c.in_ok-insert.ensures.items ∙ get_or-insert_at c.args.kept.items c.args.at c.in_ok-one.one c.index.result.now c.requires.gap.within in
    let writes : AreWrites c.args.dir.now (lists.insert c.args.kept.items c.args.at c.in_ok-one.one) c.in_ok-one.one c.in_ok-writes.writes =
    subst (λ (both : List Kept × Kept). AreWrites c.args.dir.now both.0 both.1 c.in_ok-writes.writes) (λ i. ((c.deref.ensures.value ∙ c.in_ok-insert.ensures.items) i, item_is i)) c.in_ok-writes.ensures in
    names_apart c.args.dir.now c.as_str-3.result.now c.as_str-4.result.now (c.as_str-3.ensures.value ∙ writes.beside) (c.as_str-4.ensures.value ∙ writes.list)

pub returns-in_err-commit-clause-changes : goal.returns-in_err-commit-clause-changes
returns-in_err-commit-clause-changes g c =
    let item_is : c.index.result.now ≡ c.in_ok-one.one = c.index.ensures ∙ ap (λ (l : List Kept). get_or l c.args.at c.index.result.now) c.in_ok-insert.ensures.items ∙ get_or-insert_at c.args.kept.items c.args.at c.in_ok-one.one c.index.result.now c.requires.gap.within in
    let writes : AreWrites c.args.dir.now (lists.insert c.args.kept.items c.args.at c.in_ok-one.one) c.in_ok-one.one c.in_ok-writes.writes =
    subst (λ (both : List Kept × Kept). AreWrites c.args.dir.now both.0 both.1 c.in_ok-writes.writes) (λ i. ((c.deref.ensures.value ∙ c.in_ok-insert.ensures.items) i, item_is i)) c.in_ok-writes.ensures in
    let pointer_is : c.as_str-2.result.now ≡ path c.args.dir.now c.args.name.now Pointer = c.as_str-2.ensures.value ∙ c.in_ok-pointer.ensures ∙ ap (λ (n : List ℕ). path c.args.dir.now n Pointer) c.as_str.ensures.text in
    let removed = c.in_ok-remove_synced.ensures.changes in
    let changes = c.in_err-commit.ensures.changes in
    record {
      others = λ other foreign. changes.others other (λ is. foreign (own_of c.args.dir.now c.as_str-3.result.now c.as_str-4.result.now (c.as_str-3.ensures.value ∙ writes.beside) (c.as_str-4.ensures.value ∙ writes.list) c.in_ok-one.one c.in_ok-one.ensures.release c.in_ok-writes.writes.slots.items c.as_slice.result.now c.as_slice.ensures.value (writes.slots c.in_ok-one.ensures.release) (subst IsContainer (sym (new_name c.args.kept.items c.requires.kept c.args.name.now c.args.at c.in_ok-one.one c.requires.gap c.as_str.ensures.lawful c.args.incoming c.requires.room c.in_ok-one.one c.in_ok-one.ensures)) c.as_str.ensures.lawful) other is))
          ∙ removed.others other (λ same. foreign (record { container = c.args.name.now; part = Pointer; lawful = c.as_str.ensures.lawful; spelled = same ∙ pointer_is }));
      said = changes.said ∙ removed.said;
      count = omega (arith, removed.count, changes.count);
      failed = λ _. rose_then (g.D.Panel.faults c.args.device.now) (g.D.Panel.faults c.remove_synced.new.device) (g.D.Panel.faults c.commit.new.device) removed.count changes.count (changes.failed refl);
    }

pub returns-in_err-commit-clause-cut : goal.returns-in_err-commit-clause-cut
returns-in_err-commit-clause-cut g c told settled =
    let item_is : c.index.result.now ≡ c.in_ok-one.one = c.index.ensures ∙ ap (λ (l : List Kept). get_or l c.args.at c.index.result.now) c.in_ok-insert.ensures.items ∙ get_or-insert_at c.args.kept.items c.args.at c.in_ok-one.one c.index.result.now c.requires.gap.within in
    let writes : AreWrites c.args.dir.now (lists.insert c.args.kept.items c.args.at c.in_ok-one.one) c.in_ok-one.one c.in_ok-writes.writes =
    subst (λ (both : List Kept × Kept). AreWrites c.args.dir.now both.0 both.1 c.in_ok-writes.writes) (λ i. ((c.deref.ensures.value ∙ c.in_ok-insert.ensures.items) i, item_is i)) c.in_ok-writes.ensures in
    let pointer_is : c.as_str-2.result.now ≡ path c.args.dir.now c.args.name.now Pointer = c.as_str-2.ensures.value ∙ c.in_ok-pointer.ensures ∙ ap (λ (n : List ℕ). path c.args.dir.now n Pointer) c.as_str.ensures.text in
    let first = g.D.Panel.files c.args.device.now in
    let was_open = c.requires.open told in
    let middle = c.remove_synced.new.device in
    let mid_is : g.D.Panel.files middle ≡ unpointed c.args.dir.now c.args.name.now first = c.in_ok-remove_synced.ensures.files told ∙ ap (λ (n : List ℕ). update text_eq first n None) pointer_is in
    let spoken = g.D.Panel.said c.args.device.now in
    let start = g.D.Panel.account c.args.device.now in
    let new : State = (outcome_of c.args.kept.items c.args.name.now c.args.incoming).0 in
    joined (LeavesBetween first spoken (view_of c.args.dir.now c.args.kept.items) new)
    (IsEither (g.D.Panel.files middle) (g.D.Panel.said middle) (λ (other : List ℕ). IsNameAmong c.as_slice.result.now other ⊎ (other ≡ c.as_str-3.result.now)) (replaced c.as_str-3.result.now c.as_str-4.result.now c.as_slice-2.result.now (written c.as_slice.result.now (g.D.Panel.files middle))))
    start (g.D.Panel.account middle) (g.D.Panel.account c.commit.new.device)
    (leaves_more start (g.D.Panel.account c.remove_synced.new.device) (IsEither first spoken (λ (other : List ℕ). other ≡ c.as_str-2.result.now) first) (LeavesBetween first spoken (view_of c.args.dir.now c.args.kept.items) new)
    (λ left said is. removing_leaves c.args.kept.items c.requires.kept c.args.name.now c.args.at c.in_ok-one.one c.requires.gap c.args.dir.now first was_open c.as_str.ensures.lawful spoken new left said (subst (λ (n : List ℕ). IsEither first spoken (λ (other : List ℕ). other ≡ n) first left said) pointer_is is))
    (c.in_ok-remove_synced.ensures.cut told settled))
    (c.in_err-commit.ensures.cut told (c.in_ok-remove_synced.ensures.settled told settled))
    (λ left said is. from_first c.args.kept.items c.requires.kept c.args.name.now c.args.at c.in_ok-one.one c.requires.gap c.args.dir.now c.as_str.ensures.lawful first spoken (IsBetween (state_of (entries_of c.args.kept.items)) new) left said
    (cut_leaves c.args.dir.now c.as_str-3.result.now c.as_str-4.result.now (c.as_str-3.ensures.value ∙ writes.beside) (c.as_str-4.ensures.value ∙ writes.list) c.args.kept.items (lists.insert c.args.kept.items c.args.at c.in_ok-one.one) c.in_ok-one.one (unpointed c.args.dir.now c.args.name.now first) (still_open c.args.kept.items c.requires.kept c.args.name.now c.args.at c.in_ok-one.one c.requires.gap c.args.dir.now first was_open) (added_kept c.args.kept.items c.requires.kept c.args.name.now c.args.at c.in_ok-one.one c.requires.gap c.as_str.ensures.lawful c.args.incoming c.requires.room c.in_ok-one.one c.in_ok-one.ensures) (added_in c.args.kept.items c.requires.kept c.args.name.now c.args.at c.in_ok-one.one c.requires.gap c.as_str.ensures.lawful c.args.incoming c.requires.room c.in_ok-one.one c.in_ok-one.ensures) (added_others c.args.kept.items c.requires.kept c.args.name.now c.args.at c.in_ok-one.one c.requires.gap c.as_str.ensures.lawful c.args.incoming c.requires.room c.in_ok-one.one c.in_ok-one.ensures) c.in_ok-one.ensures.release c.in_ok-writes.writes.slots.items (writes.slots c.in_ok-one.ensures.release) (added_booted c.args.kept.items c.requires.kept c.args.name.now c.args.at c.in_ok-one.one c.requires.gap c.as_str.ensures.lawful c.args.incoming c.requires.room c.in_ok-one.one c.in_ok-one.ensures c.args.dir.now first) (added_boot_set c.args.kept.items c.requires.kept c.args.name.now c.args.at c.in_ok-one.one c.requires.gap c.as_str.ensures.lawful c.args.incoming c.requires.room c.in_ok-one.one c.in_ok-one.ensures c.args.dir.now first) (added_unused c.args.kept.items c.requires.kept c.args.name.now c.args.at c.in_ok-one.one c.requires.gap c.as_str.ensures.lawful c.args.incoming c.requires.room c.in_ok-one.one c.in_ok-one.ensures c.args.dir.now) c.as_slice.result.now c.as_slice.ensures.value c.as_slice-2.result.now (c.as_slice-2.ensures.value ∙ writes.bytes) spoken new (ap (λ (both : State × Reply). both.0) (step_added c.args.kept.items c.requires.kept c.args.name.now c.args.at c.in_ok-one.one c.requires.gap c.as_str.ensures.lawful c.args.incoming c.requires.room c.in_ok-one.one c.in_ok-one.ensures)) left said
    (subst (λ (t : Files × List ℕ). IsEither t.0 t.1 (λ (other : List ℕ). IsNameAmong c.as_slice.result.now other ⊎ (other ≡ c.as_str-3.result.now)) (replaced c.as_str-3.result.now c.as_str-4.result.now c.as_slice-2.result.now (written c.as_slice.result.now t.0)) left said)
    (λ i. (mid_is i, c.in_ok-remove_synced.ensures.changes.said i)) is)))

pub returns-clause-kept : goal.returns-clause-kept
returns-clause-kept g c = subst AreKept (sym c.in_ok-insert.ensures.items) (added_kept c.args.kept.items c.requires.kept c.args.name.now c.args.at c.in_ok-one.one c.requires.gap c.as_str.ensures.lawful c.args.incoming c.requires.room c.in_ok-one.one c.in_ok-one.ensures)

pub returns-clause-made : goal.returns-clause-made
returns-clause-made g c = record {
  dir = refl;
  is = step_added c.args.kept.items c.requires.kept c.args.name.now c.args.at c.in_ok-one.one c.requires.gap c.as_str.ensures.lawful c.args.incoming c.requires.room c.in_ok-one.one c.in_ok-one.ensures ∙ ap (λ (l : List Kept). pair_of (state_of (entries_of l)) (Updated c.args.incoming.digest (len c.args.incoming.release))) (sym c.in_ok-insert.ensures.items)
      ∙ ap (λ (count : ℕ). pair_of (state_of (entries_of c.insert.new.self.items)) (Updated c.args.incoming.digest count)) (sym c.len-count.ensures.count);
}

pub returns-clause-open : goal.returns-clause-open
returns-clause-open g c told =
    let item_is : c.index.result.now ≡ c.in_ok-one.one = c.index.ensures ∙ ap (λ (l : List Kept). get_or l c.args.at c.index.result.now) c.in_ok-insert.ensures.items ∙ get_or-insert_at c.args.kept.items c.args.at c.in_ok-one.one c.index.result.now c.requires.gap.within in
    let writes : AreWrites c.args.dir.now (lists.insert c.args.kept.items c.args.at c.in_ok-one.one) c.in_ok-one.one c.in_ok-writes.writes =
    subst (λ (both : List Kept × Kept). AreWrites c.args.dir.now both.0 both.1 c.in_ok-writes.writes) (λ i. ((c.deref.ensures.value ∙ c.in_ok-insert.ensures.items) i, item_is i)) c.in_ok-writes.ensures in
    let pointer_is : c.as_str-2.result.now ≡ path c.args.dir.now c.args.name.now Pointer = c.as_str-2.ensures.value ∙ c.in_ok-pointer.ensures ∙ ap (λ (n : List ℕ). path c.args.dir.now n Pointer) c.as_str.ensures.text in
    let first = g.D.Panel.files c.args.device.now in
    let was_open = c.requires.open told in
    let middle = c.remove_synced.new.device in
    let mid_is : g.D.Panel.files middle ≡ unpointed c.args.dir.now c.args.name.now first = c.in_ok-remove_synced.ensures.files told ∙ ap (λ (n : List ℕ). update text_eq first n None) pointer_is in
    subst (λ (l : List Kept). IsOpen (g.D.Panel.files c.commit.new.device) (view_of c.args.dir.now l)) (sym c.in_ok-insert.ensures.items)
    (opened_after c.args.dir.now c.as_str-3.result.now c.as_str-4.result.now (c.as_str-3.ensures.value ∙ writes.beside) (c.as_str-4.ensures.value ∙ writes.list) c.args.kept.items (lists.insert c.args.kept.items c.args.at c.in_ok-one.one) c.in_ok-one.one (unpointed c.args.dir.now c.args.name.now first) (still_open c.args.kept.items c.requires.kept c.args.name.now c.args.at c.in_ok-one.one c.requires.gap c.args.dir.now first was_open) (added_kept c.args.kept.items c.requires.kept c.args.name.now c.args.at c.in_ok-one.one c.requires.gap c.as_str.ensures.lawful c.args.incoming c.requires.room c.in_ok-one.one c.in_ok-one.ensures) (added_in c.args.kept.items c.requires.kept c.args.name.now c.args.at c.in_ok-one.one c.requires.gap c.as_str.ensures.lawful c.args.incoming c.requires.room c.in_ok-one.one c.in_ok-one.ensures) (added_others c.args.kept.items c.requires.kept c.args.name.now c.args.at c.in_ok-one.one c.requires.gap c.as_str.ensures.lawful c.args.incoming c.requires.room c.in_ok-one.one c.in_ok-one.ensures) c.in_ok-one.ensures.release c.in_ok-writes.writes.slots.items (writes.slots c.in_ok-one.ensures.release) (added_booted c.args.kept.items c.requires.kept c.args.name.now c.args.at c.in_ok-one.one c.requires.gap c.as_str.ensures.lawful c.args.incoming c.requires.room c.in_ok-one.one c.in_ok-one.ensures c.args.dir.now first) (added_boot_set c.args.kept.items c.requires.kept c.args.name.now c.args.at c.in_ok-one.one c.requires.gap c.as_str.ensures.lawful c.args.incoming c.requires.room c.in_ok-one.one c.in_ok-one.ensures c.args.dir.now first) (added_unused c.args.kept.items c.requires.kept c.args.name.now c.args.at c.in_ok-one.one c.requires.gap c.as_str.ensures.lawful c.args.incoming c.requires.room c.in_ok-one.one c.in_ok-one.ensures c.args.dir.now) c.as_slice.result.now c.as_slice.ensures.value c.as_slice-2.result.now (c.as_slice-2.ensures.value ∙ writes.bytes) (g.D.Panel.files c.commit.new.device)
    (c.in_ok-commit.ensures.files told ∙ ap (λ (f : Files). replaced c.as_str-3.result.now c.as_str-4.result.now c.as_slice-2.result.now (written c.as_slice.result.now f)) mid_is))

pub returns-clause-changes : goal.returns-clause-changes
returns-clause-changes g c =
    let item_is : c.index.result.now ≡ c.in_ok-one.one = c.index.ensures ∙ ap (λ (l : List Kept). get_or l c.args.at c.index.result.now) c.in_ok-insert.ensures.items ∙ get_or-insert_at c.args.kept.items c.args.at c.in_ok-one.one c.index.result.now c.requires.gap.within in
    let writes : AreWrites c.args.dir.now (lists.insert c.args.kept.items c.args.at c.in_ok-one.one) c.in_ok-one.one c.in_ok-writes.writes =
    subst (λ (both : List Kept × Kept). AreWrites c.args.dir.now both.0 both.1 c.in_ok-writes.writes) (λ i. ((c.deref.ensures.value ∙ c.in_ok-insert.ensures.items) i, item_is i)) c.in_ok-writes.ensures in
    let pointer_is : c.as_str-2.result.now ≡ path c.args.dir.now c.args.name.now Pointer = c.as_str-2.ensures.value ∙ c.in_ok-pointer.ensures ∙ ap (λ (n : List ℕ). path c.args.dir.now n Pointer) c.as_str.ensures.text in
    let removed = c.in_ok-remove_synced.ensures.changes in
    let changes = c.in_ok-commit.ensures.changes in
    record {
      others = λ other foreign. changes.others other (λ is. foreign (own_of c.args.dir.now c.as_str-3.result.now c.as_str-4.result.now (c.as_str-3.ensures.value ∙ writes.beside) (c.as_str-4.ensures.value ∙ writes.list) c.in_ok-one.one c.in_ok-one.ensures.release c.in_ok-writes.writes.slots.items c.as_slice.result.now c.as_slice.ensures.value (writes.slots c.in_ok-one.ensures.release) (subst IsContainer (sym (new_name c.args.kept.items c.requires.kept c.args.name.now c.args.at c.in_ok-one.one c.requires.gap c.as_str.ensures.lawful c.args.incoming c.requires.room c.in_ok-one.one c.in_ok-one.ensures)) c.as_str.ensures.lawful) other is))
          ∙ removed.others other (λ same. foreign (record { container = c.args.name.now; part = Pointer; lawful = c.as_str.ensures.lawful; spelled = same ∙ pointer_is }));
      said = changes.said ∙ removed.said;
      count = omega (arith, removed.count, changes.count);
      failed = λ never. absurd (not_fault _ _ never);
    }

pub returns-clause-cut : goal.returns-clause-cut
returns-clause-cut g c told settled =
    let item_is : c.index.result.now ≡ c.in_ok-one.one = c.index.ensures ∙ ap (λ (l : List Kept). get_or l c.args.at c.index.result.now) c.in_ok-insert.ensures.items ∙ get_or-insert_at c.args.kept.items c.args.at c.in_ok-one.one c.index.result.now c.requires.gap.within in
    let writes : AreWrites c.args.dir.now (lists.insert c.args.kept.items c.args.at c.in_ok-one.one) c.in_ok-one.one c.in_ok-writes.writes =
    subst (λ (both : List Kept × Kept). AreWrites c.args.dir.now both.0 both.1 c.in_ok-writes.writes) (λ i. ((c.deref.ensures.value ∙ c.in_ok-insert.ensures.items) i, item_is i)) c.in_ok-writes.ensures in
    let pointer_is : c.as_str-2.result.now ≡ path c.args.dir.now c.args.name.now Pointer = c.as_str-2.ensures.value ∙ c.in_ok-pointer.ensures ∙ ap (λ (n : List ℕ). path c.args.dir.now n Pointer) c.as_str.ensures.text in
    let first = g.D.Panel.files c.args.device.now in
    let was_open = c.requires.open told in
    let middle = c.remove_synced.new.device in
    let mid_is : g.D.Panel.files middle ≡ unpointed c.args.dir.now c.args.name.now first = c.in_ok-remove_synced.ensures.files told ∙ ap (λ (n : List ℕ). update text_eq first n None) pointer_is in
    let spoken = g.D.Panel.said c.args.device.now in
    let start = g.D.Panel.account c.args.device.now in
    let new : State = (outcome_of c.args.kept.items c.args.name.now c.args.incoming).0 in
    joined (LeavesBetween first spoken (view_of c.args.dir.now c.args.kept.items) new)
    (IsEither (g.D.Panel.files middle) (g.D.Panel.said middle) (λ (other : List ℕ). IsNameAmong c.as_slice.result.now other ⊎ (other ≡ c.as_str-3.result.now)) (replaced c.as_str-3.result.now c.as_str-4.result.now c.as_slice-2.result.now (written c.as_slice.result.now (g.D.Panel.files middle))))
    start (g.D.Panel.account middle) (g.D.Panel.account c.commit.new.device)
    (leaves_more start (g.D.Panel.account c.remove_synced.new.device) (IsEither first spoken (λ (other : List ℕ). other ≡ c.as_str-2.result.now) first) (LeavesBetween first spoken (view_of c.args.dir.now c.args.kept.items) new)
    (λ left said is. removing_leaves c.args.kept.items c.requires.kept c.args.name.now c.args.at c.in_ok-one.one c.requires.gap c.args.dir.now first was_open c.as_str.ensures.lawful spoken new left said (subst (λ (n : List ℕ). IsEither first spoken (λ (other : List ℕ). other ≡ n) first left said) pointer_is is))
    (c.in_ok-remove_synced.ensures.cut told settled))
    (c.in_ok-commit.ensures.cut told (c.in_ok-remove_synced.ensures.settled told settled))
    (λ left said is. from_first c.args.kept.items c.requires.kept c.args.name.now c.args.at c.in_ok-one.one c.requires.gap c.args.dir.now c.as_str.ensures.lawful first spoken (IsBetween (state_of (entries_of c.args.kept.items)) new) left said
    (cut_leaves c.args.dir.now c.as_str-3.result.now c.as_str-4.result.now (c.as_str-3.ensures.value ∙ writes.beside) (c.as_str-4.ensures.value ∙ writes.list) c.args.kept.items (lists.insert c.args.kept.items c.args.at c.in_ok-one.one) c.in_ok-one.one (unpointed c.args.dir.now c.args.name.now first) (still_open c.args.kept.items c.requires.kept c.args.name.now c.args.at c.in_ok-one.one c.requires.gap c.args.dir.now first was_open) (added_kept c.args.kept.items c.requires.kept c.args.name.now c.args.at c.in_ok-one.one c.requires.gap c.as_str.ensures.lawful c.args.incoming c.requires.room c.in_ok-one.one c.in_ok-one.ensures) (added_in c.args.kept.items c.requires.kept c.args.name.now c.args.at c.in_ok-one.one c.requires.gap c.as_str.ensures.lawful c.args.incoming c.requires.room c.in_ok-one.one c.in_ok-one.ensures) (added_others c.args.kept.items c.requires.kept c.args.name.now c.args.at c.in_ok-one.one c.requires.gap c.as_str.ensures.lawful c.args.incoming c.requires.room c.in_ok-one.one c.in_ok-one.ensures) c.in_ok-one.ensures.release c.in_ok-writes.writes.slots.items (writes.slots c.in_ok-one.ensures.release) (added_booted c.args.kept.items c.requires.kept c.args.name.now c.args.at c.in_ok-one.one c.requires.gap c.as_str.ensures.lawful c.args.incoming c.requires.room c.in_ok-one.one c.in_ok-one.ensures c.args.dir.now first) (added_boot_set c.args.kept.items c.requires.kept c.args.name.now c.args.at c.in_ok-one.one c.requires.gap c.as_str.ensures.lawful c.args.incoming c.requires.room c.in_ok-one.one c.in_ok-one.ensures c.args.dir.now first) (added_unused c.args.kept.items c.requires.kept c.args.name.now c.args.at c.in_ok-one.one c.requires.gap c.as_str.ensures.lawful c.args.incoming c.requires.room c.in_ok-one.one c.in_ok-one.ensures c.args.dir.now) c.as_slice.result.now c.as_slice.ensures.value c.as_slice-2.result.now (c.as_slice-2.ensures.value ∙ writes.bytes) spoken new (ap (λ (both : State × Reply). both.0) (step_added c.args.kept.items c.requires.kept c.args.name.now c.args.at c.in_ok-one.one c.requires.gap c.as_str.ensures.lawful c.args.incoming c.requires.room c.in_ok-one.one c.in_ok-one.ensures)) left said
    (subst (λ (t : Files × List ℕ). IsEither t.0 t.1 (λ (other : List ℕ). IsNameAmong c.as_slice.result.now other ⊎ (other ≡ c.as_str-3.result.now)) (replaced c.as_str-3.result.now c.as_str-4.result.now c.as_slice-2.result.now (written c.as_slice.result.now t.0)) left said)
    (λ i. (mid_is i, c.in_ok-remove_synced.ensures.changes.said i)) is)))

pub returns-clause-updated : goal.returns-clause-updated
returns-clause-updated g c = λ never. never
