use Rattle.std.proofs.Common.{ℕ, List, set, ◌≡◌, ◌⊎◌, bytes_eq, refl, ap, subst, sym, ◌∙◌}
use Rattle.std.proofs.lemmas.List.{get_or-set_same}
use Rattle.acfg_commit.specs.Written.{IsNameAmong, replaced, written}
use Rattle.acfg_device.specs.Left.{IsEither, LeavesSince}
use Rattle.acfg_model.specs.declared.requests.Reply.{Reply}
use Rattle.acfg_model.specs.declared.requests.Reply.TheVariants.{Updated}
use Rattle.acfg_model.specs.State.{State}
use Rattle.acfg_model.proofs.Kept.{pair_of}
use Rattle.acfg_store.specs.Applied.{LeavesBetween}
use Rattle.acfg_store.specs.declared.containers.Kept.{Kept}
use Rattle.acfg_store.specs.Opening.{AreKept, entries_of}
use Rattle.acfg_store.specs.Stands.{state_of}
use Rattle.acfg_store.specs.Updated.{AreWrites, IsIncoming, outcome_of, view_of}
use Rattle.acfg_store.proofs.Known.{known_booted, known_boot_set, known_kept, known_rest, known_there, known_unused, lawful_of, step_known, was_name}
use Rattle.acfg_store.proofs.Changing.{leaves_more}
use Rattle.acfg_store.proofs.OverridesCommitted.{rests}
use Rattle.acfg_store.proofs.UpdateCommitted.{cut_leaves, names_apart, not_fault, opened_after, own_of}
use Rattle.acfg_store.proofs.updating.update_known.Goals as goal

pub take_release-requires : goal.take_release-requires
take_release-requires g c = subst (λ (name : List ℕ). IsIncoming name c.args.incoming) (sym (was_name c.args.kept.items c.requires.kept c.args.name.now c.args.at c.requires.stands c.index_mut.result.now c.index_mut.ensures.value)) c.requires.incoming

pub returns-in_err-take_release-clause-cut : goal.returns-in_err-take_release-clause-cut
returns-in_err-take_release-clause-cut g c told settled =
    let account = g.D.Panel.account c.args.device.now in
    let first = g.D.Panel.files c.args.device.now in
    let store = view_of c.args.dir.now c.args.kept.items in
    let new : State = (outcome_of c.args.kept.items c.args.name.now c.args.incoming).0 in
    subst (λ (spoken : List ℕ). LeavesSince account account (LeavesBetween first spoken store new)) (sym (g.met.D.Panel.said_told c.args.device.now))
    (rests account first store new (g.met.D.Panel.files_told c.args.device.now) settled (c.requires.open told))

pub plan-requires-clause-kept : goal.plan-requires-clause-kept
plan-requires-clause-kept g c = subst AreKept (sym c.deref.ensures.value) (known_kept c.args.kept.items c.requires.kept c.args.name.now c.args.at c.requires.stands c.index_mut.result.now c.index_mut.ensures.value c.args.incoming c.take_release.new.kept c.in_ok-take_release.ensures)

pub returns-in_err-writes-clause-cut : goal.returns-in_err-writes-clause-cut
returns-in_err-writes-clause-cut g c told settled =
    let account = g.D.Panel.account c.args.device.now in
    let first = g.D.Panel.files c.args.device.now in
    let store = view_of c.args.dir.now c.args.kept.items in
    let new : State = (outcome_of c.args.kept.items c.args.name.now c.args.incoming).0 in
    subst (λ (spoken : List ℕ). LeavesSince account account (LeavesBetween first spoken store new)) (sym (g.met.D.Panel.said_told c.args.device.now))
    (rests account first store new (g.met.D.Panel.files_told c.args.device.now) settled (c.requires.open told))

pub commit-requires : goal.commit-requires
commit-requires g c =
    let item_is : c.index.result.now ≡ c.take_release.new.kept = c.index.ensures ∙ get_or-set_same c.args.kept.items c.args.at c.take_release.new.kept c.index.result.now c.requires.stands.within in
    let writes : AreWrites c.args.dir.now (set c.args.kept.items c.args.at c.take_release.new.kept) c.take_release.new.kept c.in_ok-writes.writes = subst (λ (both : List Kept × Kept). AreWrites c.args.dir.now both.0 both.1 c.in_ok-writes.writes) (λ i. (c.deref.ensures.value i, item_is i)) c.in_ok-writes.ensures in
    names_apart c.args.dir.now c.as_str.result.now c.as_str-2.result.now (c.as_str.ensures.value ∙ writes.beside) (c.as_str-2.ensures.value ∙ writes.list)

pub returns-in_err-commit-clause-changes : goal.returns-in_err-commit-clause-changes
returns-in_err-commit-clause-changes g c =
    let item_is : c.index.result.now ≡ c.take_release.new.kept = c.index.ensures ∙ get_or-set_same c.args.kept.items c.args.at c.take_release.new.kept c.index.result.now c.requires.stands.within in
    let writes : AreWrites c.args.dir.now (set c.args.kept.items c.args.at c.take_release.new.kept) c.take_release.new.kept c.in_ok-writes.writes = subst (λ (both : List Kept × Kept). AreWrites c.args.dir.now both.0 both.1 c.in_ok-writes.writes) (λ i. (c.deref.ensures.value i, item_is i)) c.in_ok-writes.ensures in
    let changes = c.in_err-commit.ensures.changes in
    record {
      others = λ other foreign. changes.others other (λ is. foreign (own_of c.args.dir.now c.as_str.result.now c.as_str-2.result.now (c.as_str.ensures.value ∙ writes.beside) (c.as_str-2.ensures.value ∙ writes.list) c.take_release.new.kept c.in_ok-take_release.ensures.release c.in_ok-writes.writes.slots.items c.as_slice.result.now c.as_slice.ensures.value (writes.slots c.in_ok-take_release.ensures.release) (lawful_of c.args.kept.items c.requires.kept c.args.name.now c.args.at c.requires.stands c.index_mut.result.now c.index_mut.ensures.value c.args.incoming c.take_release.new.kept c.in_ok-take_release.ensures) other is));
      said = changes.said;
      count = changes.count;
      failed = λ _. changes.failed refl;
    }

pub returns-in_err-commit-clause-cut : goal.returns-in_err-commit-clause-cut
returns-in_err-commit-clause-cut g c told settled =
    let item_is : c.index.result.now ≡ c.take_release.new.kept = c.index.ensures ∙ get_or-set_same c.args.kept.items c.args.at c.take_release.new.kept c.index.result.now c.requires.stands.within in
    let writes : AreWrites c.args.dir.now (set c.args.kept.items c.args.at c.take_release.new.kept) c.take_release.new.kept c.in_ok-writes.writes = subst (λ (both : List Kept × Kept). AreWrites c.args.dir.now both.0 both.1 c.in_ok-writes.writes) (λ i. (c.deref.ensures.value i, item_is i)) c.in_ok-writes.ensures in
    let first = g.D.Panel.files c.args.device.now in
    let was_open = c.requires.open told in
    let spoken = g.D.Panel.said c.args.device.now in
    let start = g.D.Panel.account c.args.device.now in
    let end = g.D.Panel.account c.commit.new.device in
    let new : State = (outcome_of c.args.kept.items c.args.name.now c.args.incoming).0 in
    leaves_more start end
    (IsEither first spoken (λ (other : List ℕ). IsNameAmong c.as_slice.result.now other ⊎ (other ≡ c.as_str.result.now))
    (replaced c.as_str.result.now c.as_str-2.result.now c.as_slice-2.result.now (written c.as_slice.result.now first)))
    (LeavesBetween first spoken (view_of c.args.dir.now c.args.kept.items) new)
    (cut_leaves c.args.dir.now c.as_str.result.now c.as_str-2.result.now (c.as_str.ensures.value ∙ writes.beside) (c.as_str-2.ensures.value ∙ writes.list) c.args.kept.items (set c.args.kept.items c.args.at c.take_release.new.kept) c.take_release.new.kept first was_open (known_kept c.args.kept.items c.requires.kept c.args.name.now c.args.at c.requires.stands c.index_mut.result.now c.index_mut.ensures.value c.args.incoming c.take_release.new.kept c.in_ok-take_release.ensures) (known_there c.args.kept.items c.requires.kept c.args.name.now c.args.at c.requires.stands c.index_mut.result.now c.index_mut.ensures.value c.args.incoming c.take_release.new.kept c.in_ok-take_release.ensures) (known_rest c.args.kept.items c.requires.kept c.args.name.now c.args.at c.requires.stands c.index_mut.result.now c.index_mut.ensures.value c.args.incoming c.take_release.new.kept c.in_ok-take_release.ensures) c.in_ok-take_release.ensures.release c.in_ok-writes.writes.slots.items (writes.slots c.in_ok-take_release.ensures.release) (known_booted c.args.kept.items c.requires.kept c.args.name.now c.args.at c.requires.stands c.index_mut.result.now c.index_mut.ensures.value c.args.incoming c.take_release.new.kept c.in_ok-take_release.ensures c.args.dir.now first was_open) (known_boot_set c.args.kept.items c.requires.kept c.args.name.now c.args.at c.requires.stands c.index_mut.result.now c.index_mut.ensures.value c.args.incoming c.take_release.new.kept c.in_ok-take_release.ensures c.args.dir.now first was_open) (known_unused c.args.kept.items c.requires.kept c.args.name.now c.args.at c.requires.stands c.index_mut.result.now c.index_mut.ensures.value c.args.incoming c.take_release.new.kept c.in_ok-take_release.ensures c.args.dir.now) c.as_slice.result.now c.as_slice.ensures.value c.as_slice-2.result.now (c.as_slice-2.ensures.value ∙ writes.bytes) spoken new (ap (λ (both : State × Reply). both.0) (step_known c.args.kept.items c.requires.kept c.args.name.now c.args.at c.requires.stands c.index_mut.result.now c.index_mut.ensures.value c.args.incoming c.take_release.new.kept c.in_ok-take_release.ensures (ap (λ (k : Kept). bytes_eq k.container.digest c.args.incoming.digest) c.index_mut.ensures.value ∙ c.requires.other c.index_mut.result.now))))
    (c.in_err-commit.ensures.cut told settled)

pub returns-clause-kept : goal.returns-clause-kept
returns-clause-kept g c = known_kept c.args.kept.items c.requires.kept c.args.name.now c.args.at c.requires.stands c.index_mut.result.now c.index_mut.ensures.value c.args.incoming c.take_release.new.kept c.in_ok-take_release.ensures

pub returns-clause-made : goal.returns-clause-made
returns-clause-made g c = record {
  dir = refl;
  is = step_known c.args.kept.items c.requires.kept c.args.name.now c.args.at c.requires.stands c.index_mut.result.now c.index_mut.ensures.value c.args.incoming c.take_release.new.kept c.in_ok-take_release.ensures (ap (λ (k : Kept). bytes_eq k.container.digest c.args.incoming.digest) c.index_mut.ensures.value ∙ c.requires.other c.index_mut.result.now) ∙ ap (λ (count : ℕ). pair_of (state_of (entries_of (set c.args.kept.items c.args.at c.take_release.new.kept))) (Updated c.args.incoming.digest count)) (sym c.len-count.ensures.count);
}

pub returns-clause-open : goal.returns-clause-open
returns-clause-open g c told =
    let item_is : c.index.result.now ≡ c.take_release.new.kept = c.index.ensures ∙ get_or-set_same c.args.kept.items c.args.at c.take_release.new.kept c.index.result.now c.requires.stands.within in
    let writes : AreWrites c.args.dir.now (set c.args.kept.items c.args.at c.take_release.new.kept) c.take_release.new.kept c.in_ok-writes.writes = subst (λ (both : List Kept × Kept). AreWrites c.args.dir.now both.0 both.1 c.in_ok-writes.writes) (λ i. (c.deref.ensures.value i, item_is i)) c.in_ok-writes.ensures in
    let first = g.D.Panel.files c.args.device.now in
    let was_open = c.requires.open told in
    opened_after c.args.dir.now c.as_str.result.now c.as_str-2.result.now (c.as_str.ensures.value ∙ writes.beside) (c.as_str-2.ensures.value ∙ writes.list) c.args.kept.items (set c.args.kept.items c.args.at c.take_release.new.kept) c.take_release.new.kept first was_open (known_kept c.args.kept.items c.requires.kept c.args.name.now c.args.at c.requires.stands c.index_mut.result.now c.index_mut.ensures.value c.args.incoming c.take_release.new.kept c.in_ok-take_release.ensures) (known_there c.args.kept.items c.requires.kept c.args.name.now c.args.at c.requires.stands c.index_mut.result.now c.index_mut.ensures.value c.args.incoming c.take_release.new.kept c.in_ok-take_release.ensures) (known_rest c.args.kept.items c.requires.kept c.args.name.now c.args.at c.requires.stands c.index_mut.result.now c.index_mut.ensures.value c.args.incoming c.take_release.new.kept c.in_ok-take_release.ensures) c.in_ok-take_release.ensures.release c.in_ok-writes.writes.slots.items (writes.slots c.in_ok-take_release.ensures.release) (known_booted c.args.kept.items c.requires.kept c.args.name.now c.args.at c.requires.stands c.index_mut.result.now c.index_mut.ensures.value c.args.incoming c.take_release.new.kept c.in_ok-take_release.ensures c.args.dir.now first was_open) (known_boot_set c.args.kept.items c.requires.kept c.args.name.now c.args.at c.requires.stands c.index_mut.result.now c.index_mut.ensures.value c.args.incoming c.take_release.new.kept c.in_ok-take_release.ensures c.args.dir.now first was_open) (known_unused c.args.kept.items c.requires.kept c.args.name.now c.args.at c.requires.stands c.index_mut.result.now c.index_mut.ensures.value c.args.incoming c.take_release.new.kept c.in_ok-take_release.ensures c.args.dir.now) c.as_slice.result.now c.as_slice.ensures.value c.as_slice-2.result.now (c.as_slice-2.ensures.value ∙ writes.bytes) (g.D.Panel.files c.commit.new.device) (c.in_ok-commit.ensures.files told)

pub returns-clause-changes : goal.returns-clause-changes
returns-clause-changes g c =
    let item_is : c.index.result.now ≡ c.take_release.new.kept = c.index.ensures ∙ get_or-set_same c.args.kept.items c.args.at c.take_release.new.kept c.index.result.now c.requires.stands.within in
    let writes : AreWrites c.args.dir.now (set c.args.kept.items c.args.at c.take_release.new.kept) c.take_release.new.kept c.in_ok-writes.writes = subst (λ (both : List Kept × Kept). AreWrites c.args.dir.now both.0 both.1 c.in_ok-writes.writes) (λ i. (c.deref.ensures.value i, item_is i)) c.in_ok-writes.ensures in
    let changes = c.in_ok-commit.ensures.changes in
    record {
      others = λ other foreign. changes.others other (λ is. foreign (own_of c.args.dir.now c.as_str.result.now c.as_str-2.result.now (c.as_str.ensures.value ∙ writes.beside) (c.as_str-2.ensures.value ∙ writes.list) c.take_release.new.kept c.in_ok-take_release.ensures.release c.in_ok-writes.writes.slots.items c.as_slice.result.now c.as_slice.ensures.value (writes.slots c.in_ok-take_release.ensures.release) (lawful_of c.args.kept.items c.requires.kept c.args.name.now c.args.at c.requires.stands c.index_mut.result.now c.index_mut.ensures.value c.args.incoming c.take_release.new.kept c.in_ok-take_release.ensures) other is));
      said = changes.said;
      count = changes.count;
      failed = λ never. absurd (not_fault _ _ never);
    }

pub returns-clause-cut : goal.returns-clause-cut
returns-clause-cut g c told settled =
    let item_is : c.index.result.now ≡ c.take_release.new.kept = c.index.ensures ∙ get_or-set_same c.args.kept.items c.args.at c.take_release.new.kept c.index.result.now c.requires.stands.within in
    let writes : AreWrites c.args.dir.now (set c.args.kept.items c.args.at c.take_release.new.kept) c.take_release.new.kept c.in_ok-writes.writes = subst (λ (both : List Kept × Kept). AreWrites c.args.dir.now both.0 both.1 c.in_ok-writes.writes) (λ i. (c.deref.ensures.value i, item_is i)) c.in_ok-writes.ensures in
    let first = g.D.Panel.files c.args.device.now in
    let was_open = c.requires.open told in
    let spoken = g.D.Panel.said c.args.device.now in
    let start = g.D.Panel.account c.args.device.now in
    let end = g.D.Panel.account c.commit.new.device in
    let new : State = (outcome_of c.args.kept.items c.args.name.now c.args.incoming).0 in
    leaves_more start end
    (IsEither first spoken (λ (other : List ℕ). IsNameAmong c.as_slice.result.now other ⊎ (other ≡ c.as_str.result.now))
    (replaced c.as_str.result.now c.as_str-2.result.now c.as_slice-2.result.now (written c.as_slice.result.now first)))
    (LeavesBetween first spoken (view_of c.args.dir.now c.args.kept.items) new)
    (cut_leaves c.args.dir.now c.as_str.result.now c.as_str-2.result.now (c.as_str.ensures.value ∙ writes.beside) (c.as_str-2.ensures.value ∙ writes.list) c.args.kept.items (set c.args.kept.items c.args.at c.take_release.new.kept) c.take_release.new.kept first was_open (known_kept c.args.kept.items c.requires.kept c.args.name.now c.args.at c.requires.stands c.index_mut.result.now c.index_mut.ensures.value c.args.incoming c.take_release.new.kept c.in_ok-take_release.ensures) (known_there c.args.kept.items c.requires.kept c.args.name.now c.args.at c.requires.stands c.index_mut.result.now c.index_mut.ensures.value c.args.incoming c.take_release.new.kept c.in_ok-take_release.ensures) (known_rest c.args.kept.items c.requires.kept c.args.name.now c.args.at c.requires.stands c.index_mut.result.now c.index_mut.ensures.value c.args.incoming c.take_release.new.kept c.in_ok-take_release.ensures) c.in_ok-take_release.ensures.release c.in_ok-writes.writes.slots.items (writes.slots c.in_ok-take_release.ensures.release) (known_booted c.args.kept.items c.requires.kept c.args.name.now c.args.at c.requires.stands c.index_mut.result.now c.index_mut.ensures.value c.args.incoming c.take_release.new.kept c.in_ok-take_release.ensures c.args.dir.now first was_open) (known_boot_set c.args.kept.items c.requires.kept c.args.name.now c.args.at c.requires.stands c.index_mut.result.now c.index_mut.ensures.value c.args.incoming c.take_release.new.kept c.in_ok-take_release.ensures c.args.dir.now first was_open) (known_unused c.args.kept.items c.requires.kept c.args.name.now c.args.at c.requires.stands c.index_mut.result.now c.index_mut.ensures.value c.args.incoming c.take_release.new.kept c.in_ok-take_release.ensures c.args.dir.now) c.as_slice.result.now c.as_slice.ensures.value c.as_slice-2.result.now (c.as_slice-2.ensures.value ∙ writes.bytes) spoken new (ap (λ (both : State × Reply). both.0) (step_known c.args.kept.items c.requires.kept c.args.name.now c.args.at c.requires.stands c.index_mut.result.now c.index_mut.ensures.value c.args.incoming c.take_release.new.kept c.in_ok-take_release.ensures (ap (λ (k : Kept). bytes_eq k.container.digest c.args.incoming.digest) c.index_mut.ensures.value ∙ c.requires.other c.index_mut.result.now))))
    (c.in_ok-commit.ensures.cut told settled)

pub returns-clause-updated : goal.returns-clause-updated
returns-clause-updated g c = λ never. never
