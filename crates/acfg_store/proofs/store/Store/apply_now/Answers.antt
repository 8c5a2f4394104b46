use Rattle.std.proofs.Common.{◌≡◌, ◌⊎◌, ℕ, ◌<◌, List, get_or, length, true, refl, sym, ap, subst, ◌∙◌, string_bytes}
use Rattle.std.proofs.lemmas.List.{get_or_default}
use Rattle.acfg_base.specs.Release.{Key}
use Rattle.acfg_commit.specs.Written.{IsNameAmong, replaced, written}
use Rattle.acfg_device.specs.Left.{IsEither, LeavesSince}
use Rattle.acfg_device.proofs.Moments.{joined}
use Rattle.acfg_device.proofs.OnlyThen.{changes_then}
use Rattle.acfg_model.specs.declared.requests.Reply.TheVariants.{Fine}
use Rattle.acfg_model.specs.State.{State}
use Rattle.acfg_model.specs.Step.{IsRenewable, change_step}
use Rattle.acfg_model.proofs.Kept.{pair_of}
use Rattle.acfg_store.specs.Commits.{IsEitherState, LeavesState}
use Rattle.acfg_store.specs.declared.containers.Kept.{Kept}
use Rattle.acfg_store.specs.Applied.{IsOpen, LeavesBetween, state_in}
use Rattle.acfg_store.specs.BootPlans.{IsRenewalPlan, LeavesRenewed, renewed_at}
use Rattle.acfg_store.specs.Kept.{entry_of}
use Rattle.acfg_store.specs.Names.{IsOfDirectory}
use Rattle.acfg_store.specs.Opening.{entries_of}
use Rattle.acfg_store.specs.Planned.{IsPlanned}
use Rattle.acfg_store.specs.Stands.{Entry, state_of}
use Rattle.acfg_store.specs.Store.{StoreView}
use Rattle.acfg_store.specs.Updated.{view_of}
use Rattle.acfg_store.proofs.AllBooted.{changes_in}
use Rattle.acfg_store.proofs.ChangedNow.{first_leaves, mid_renewable, mid_within, step_now, then_leaves}
use Rattle.acfg_store.proofs.Changing.{leaves_more}
use Rattle.acfg_store.proofs.OverridesCommitted.{cut_either, layout_of, names_apart, own_of, rests, sets_of_all}
use Rattle.acfg_store.proofs.UpdateCommitted.{not_fault}
use Rattle.acfg_store.proofs.store.Store.apply_now.Goals as goal

pub returns-in_err-plan-in-Ok-clause-cut : goal.returns-in_err-plan-in-Ok-clause-cut
returns-in_err-plan-in-Ok-clause-cut g c told settled =
    let account = g.D.Panel.account c.args.device.now in
    let first = g.D.Panel.files c.args.device.now in
    let new : State = (change_step true (state_in c.args.self) c.args.name.now c.args.change.now).0 in
    subst (λ (spoken : List ℕ). LeavesSince account account (LeavesBetween first spoken c.args.self new)) (sym (g.met.D.Panel.said_told c.args.device.now))
    (rests account first c.args.self new (g.met.D.Panel.files_told c.args.device.now) settled (c.requires told))

pub returns-in_err-copy-in-Ok-clause-cut : goal.returns-in_err-copy-in-Ok-clause-cut
returns-in_err-copy-in-Ok-clause-cut g c told settled =
    let account = g.D.Panel.account c.args.device.now in
    let first = g.D.Panel.files c.args.device.now in
    let new : State = (change_step true (state_in c.args.self) c.args.name.now c.args.change.now).0 in
    subst (λ (spoken : List ℕ). LeavesSince account account (LeavesBetween first spoken c.args.self new)) (sym (g.met.D.Panel.said_told c.args.device.now))
    (rests account first c.args.self new (g.met.D.Panel.files_told c.args.device.now) settled (c.requires told))

pub returns-in-Err-clause-cut : goal.returns-in-Err-clause-cut
returns-in-Err-clause-cut g c told settled =
    let account = g.D.Panel.account c.args.device.now in
    let first = g.D.Panel.files c.args.device.now in
    let new : State = (change_step true (state_in c.args.self) c.args.name.now c.args.change.now).0 in
    subst (λ (spoken : List ℕ). LeavesSince account account (LeavesBetween first spoken c.args.self new)) (sym (g.met.D.Panel.said_told c.args.device.now))
    (rests account first c.args.self new (g.met.D.Panel.files_told c.args.device.now) settled (c.requires told))

pub plan_renewal-requires-clause-renewable : goal.plan_renewal-requires-clause-renewable
plan_renewal-requires-clause-renewable g c =
    subst (λ (both : Kept × Key). IsRenewable both.0.container.boot both.1) (λ i. (sym c.index.ensures i, sym c.key.ensures i)) (mid_renewable c.self.inside.containers.items c.change_now_in.new.containers.items c.self.invariant c.args.name.now c.args.change.now c.in-Ok.at c.in-Ok.ensures c.index.result.now)

pub commit-requires : goal.commit-requires
commit-requires g c same =
    let planned : IsPlanned (string_bytes c.self.inside.dir) c.change_now_in.new.containers.items c.in-Ok.at c.in_ok-plan-in-Ok.plan =
    subst (λ (both : List ℕ × List Kept). IsPlanned both.0 both.1 c.in-Ok.at c.in_ok-plan-in-Ok.plan) (λ i. (c.as_str.ensures.value i, c.deref.ensures.value i)) c.in_ok-plan-in-Ok.ensures in
    names_apart (string_bytes c.self.inside.dir) c.self.inside.containers.items c.change_now_in.new.containers.items c.args.name.now c.args.change.now c.in-Ok.at c.in-Ok.ensures.changed_at c.self.invariant c.in_ok-plan-in-Ok.plan planned c.as_slice.result.now c.as_str-in-Ok-2.result.now c.as_str-in-Ok-3.result.now c.as_slice.ensures.value c.as_str-in-Ok-2.ensures.value c.as_str-in-Ok-3.ensures.value same

pub commit_renewal-requires-clause-renewable : goal.commit_renewal-requires-clause-renewable
commit_renewal-requires-clause-renewable g c one =
    subst (λ (key : Key). IsRenewable (get_or c.change_now_in.new.containers.items c.in-Ok.at one).container.boot key) (sym c.key-in-Ok.ensures) (mid_renewable c.self.inside.containers.items c.change_now_in.new.containers.items c.self.invariant c.args.name.now c.args.change.now c.in-Ok.at c.in-Ok.ensures one)

pub commit_renewal-requires-clause-planned : goal.commit_renewal-requires-clause-planned
commit_renewal-requires-clause-planned g c one =
    let within : c.in-Ok.at < length c.change_now_in.new.containers.items = mid_within c.self.inside.containers.items c.change_now_in.new.containers.items c.self.invariant c.args.name.now c.args.change.now c.in-Ok.at c.in-Ok.ensures in
    subst (λ (t : List ℕ × (Kept × Key)). IsRenewalPlan t.0 t.1.0 t.1.1 c.in_ok-copy-in-Ok.copy)
    (λ i. ((c.as_str-in-Ok.ensures.value ∙ sym c.as_str-in-Ok-4.ensures.value) i, ((c.index.ensures ∙ get_or_default c.change_now_in.new.containers.items c.in-Ok.at c.index.result.now one within) i, (c.key.ensures ∙ sym c.key-in-Ok.ensures) i)))
    c.in_ok-copy-in-Ok.ensures

pub commit_renewal-requires-clause-open : goal.commit_renewal-requires-clause-open
commit_renewal-requires-clause-open g c told =
    let planned : IsPlanned (string_bytes c.self.inside.dir) c.change_now_in.new.containers.items c.in-Ok.at c.in_ok-plan-in-Ok.plan =
    subst (λ (both : List ℕ × List Kept). IsPlanned both.0 both.1 c.in-Ok.at c.in_ok-plan-in-Ok.plan) (λ i. (c.as_str.ensures.value i, c.deref.ensures.value i)) c.in_ok-plan-in-Ok.ensures in
    let first = g.D.Panel.files c.args.device.now in
    let opened : IsOpen first (view_of (string_bytes c.self.inside.dir) c.self.inside.containers.items) = subst (IsOpen first) (sym c.self.view_is) (c.requires told) in
    let now = g.D.Panel.files c.commit.new.device in
    subst (λ (d : List ℕ). IsOpen now (view_of d c.change_now_in.new.containers.items)) (sym c.as_str-in-Ok-4.ensures.value) (record {
      layout = layout_of (string_bytes c.self.inside.dir) c.self.inside.containers.items c.change_now_in.new.containers.items c.args.name.now c.args.change.now c.in-Ok.at c.in-Ok.ensures.changed_at c.self.invariant c.in_ok-plan-in-Ok.plan planned first opened.layout opened.kept c.as_slice.result.now c.as_str-in-Ok-2.result.now c.as_str-in-Ok-3.result.now c.as_slice-in-Ok.result.now c.as_slice.ensures.value c.as_str-in-Ok-2.ensures.value c.as_str-in-Ok-3.ensures.value c.as_slice-in-Ok.ensures.value now (c.in_ok-commit-in-Ok.ensures.files told);
      kept = sets_of_all (string_bytes c.self.inside.dir) c.self.inside.containers.items c.change_now_in.new.containers.items c.args.name.now c.args.change.now c.in-Ok.at c.in-Ok.ensures.changed_at c.self.invariant c.in_ok-plan-in-Ok.plan planned first opened.layout opened.kept c.as_slice.result.now c.as_str-in-Ok-2.result.now c.as_str-in-Ok-3.result.now c.as_slice-in-Ok.result.now c.as_slice.ensures.value c.as_str-in-Ok-2.ensures.value c.as_str-in-Ok-3.ensures.value c.as_slice-in-Ok.ensures.value now (c.in_ok-commit-in-Ok.ensures.files told);
    })

pub returns-in_err-commit-in-Ok-clause-changes : goal.returns-in_err-commit-in-Ok-clause-changes
returns-in_err-commit-in-Ok-clause-changes g c =
    let planned : IsPlanned (string_bytes c.self.inside.dir) c.change_now_in.new.containers.items c.in-Ok.at c.in_ok-plan-in-Ok.plan =
    subst (λ (both : List ℕ × List Kept). IsPlanned both.0 both.1 c.in-Ok.at c.in_ok-plan-in-Ok.plan) (λ i. (c.as_str.ensures.value i, c.deref.ensures.value i)) c.in_ok-plan-in-Ok.ensures in
    let changes = c.in_err-commit-in-Ok.ensures.changes in
    record {
      others = λ other foreign. changes.others other (λ written. foreign (subst (λ (d : List ℕ). IsOfDirectory d other) (ap (λ (s : StoreView). s.dir) c.self.view_is)
          (own_of (string_bytes c.self.inside.dir) c.self.inside.containers.items c.change_now_in.new.containers.items c.args.name.now c.args.change.now c.in-Ok.at c.in-Ok.ensures.changed_at c.self.invariant c.in_ok-plan-in-Ok.plan planned c.as_slice.result.now c.as_str-in-Ok-2.result.now c.as_str-in-Ok-3.result.now c.as_slice.ensures.value c.as_str-in-Ok-2.ensures.value c.as_str-in-Ok-3.ensures.value other written)));
      said = changes.said;
      count = changes.count;
      failed = λ _. changes.failed refl;
    }

pub returns-in_err-commit-in-Ok-clause-cut : goal.returns-in_err-commit-in-Ok-clause-cut
returns-in_err-commit-in-Ok-clause-cut g c told settled =
    let planned : IsPlanned (string_bytes c.self.inside.dir) c.change_now_in.new.containers.items c.in-Ok.at c.in_ok-plan-in-Ok.plan =
    subst (λ (both : List ℕ × List Kept). IsPlanned both.0 both.1 c.in-Ok.at c.in_ok-plan-in-Ok.plan) (λ i. (c.as_str.ensures.value i, c.deref.ensures.value i)) c.in_ok-plan-in-Ok.ensures in
    let first = g.D.Panel.files c.args.device.now in
    let spoken = g.D.Panel.said c.args.device.now in
    let start = g.D.Panel.account c.args.device.now in
    let middle = g.D.Panel.account c.commit.new.device in
    let was : StoreView = view_of (string_bytes c.self.inside.dir) c.self.inside.containers.items in
    let opened : IsOpen first was = subst (IsOpen first) (sym c.self.view_is) (c.requires told) in
    let last : State = (change_step true (state_in was) c.args.name.now c.args.change.now).0 in
    subst (λ (s : StoreView). LeavesSince start middle (LeavesBetween first spoken s (change_step true (state_in s) c.args.name.now c.args.change.now).0)) c.self.view_is
    (leaves_more start middle
    (IsEither first spoken (λ (other : List ℕ). IsNameAmong c.as_slice.result.now other ⊎ (other ≡ c.as_str-in-Ok-2.result.now)) (replaced c.as_str-in-Ok-2.result.now c.as_str-in-Ok-3.result.now c.as_slice-in-Ok.result.now (written c.as_slice.result.now first)))
    (LeavesBetween first spoken was last)
    (λ left said either. first_leaves c.self.inside.containers.items c.change_now_in.new.containers.items c.self.invariant c.args.name.now c.args.change.now c.in-Ok.at c.in-Ok.ensures first spoken (string_bytes c.self.inside.dir) left said
    (cut_either (string_bytes c.self.inside.dir) c.self.inside.containers.items c.change_now_in.new.containers.items c.args.name.now c.args.change.now c.in-Ok.at c.in-Ok.ensures.changed_at c.self.invariant c.in_ok-plan-in-Ok.plan planned first opened.layout opened.kept c.as_slice.result.now c.as_str-in-Ok-2.result.now c.as_str-in-Ok-3.result.now c.as_slice-in-Ok.result.now c.as_slice.ensures.value c.as_str-in-Ok-2.ensures.value c.as_str-in-Ok-3.ensures.value c.as_slice-in-Ok.ensures.value spoken left said either))
    (c.in_err-commit-in-Ok.ensures.cut told settled))

pub returns-in_err-commit_renewal-in-Ok-clause-changes : goal.returns-in_err-commit_renewal-in-Ok-clause-changes
returns-in_err-commit_renewal-in-Ok-clause-changes g c =
    let planned : IsPlanned (string_bytes c.self.inside.dir) c.change_now_in.new.containers.items c.in-Ok.at c.in_ok-plan-in-Ok.plan =
    subst (λ (both : List ℕ × List Kept). IsPlanned both.0 both.1 c.in-Ok.at c.in_ok-plan-in-Ok.plan) (λ i. (c.as_str.ensures.value i, c.deref.ensures.value i)) c.in_ok-plan-in-Ok.ensures in
    let early = c.in_ok-commit-in-Ok.ensures.changes in
    let to_self : (string_bytes c.self.inside.dir) ≡ c.args.self.dir = ap (λ (s : StoreView). s.dir) c.self.view_is in
    changes_then {one = ⊥} (IsOfDirectory c.args.self.dir) (record {
      others = λ other foreign. early.others other (λ written. foreign (subst (λ (d : List ℕ). IsOfDirectory d other) to_self
          (own_of (string_bytes c.self.inside.dir) c.self.inside.containers.items c.change_now_in.new.containers.items c.args.name.now c.args.change.now c.in-Ok.at c.in-Ok.ensures.changed_at c.self.invariant c.in_ok-plan-in-Ok.plan planned c.as_slice.result.now c.as_str-in-Ok-2.result.now c.as_str-in-Ok-3.result.now c.as_slice.ensures.value c.as_str-in-Ok-2.ensures.value c.as_str-in-Ok-3.ensures.value other written)));
      said = early.said;
      count = early.count;
      failed = λ never. absurd never;
    }) (changes_in c.as_str-in-Ok-4.result.now c.args.self.dir (c.as_str-in-Ok-4.ensures.value ∙ to_self) c.in_err-commit_renewal-in-Ok.ensures.changes) (λ _. refl)

pub returns-in_err-commit_renewal-in-Ok-clause-cut : goal.returns-in_err-commit_renewal-in-Ok-clause-cut
returns-in_err-commit_renewal-in-Ok-clause-cut g c told settled =
    let planned : IsPlanned (string_bytes c.self.inside.dir) c.change_now_in.new.containers.items c.in-Ok.at c.in_ok-plan-in-Ok.plan =
    subst (λ (both : List ℕ × List Kept). IsPlanned both.0 both.1 c.in-Ok.at c.in_ok-plan-in-Ok.plan) (λ i. (c.as_str.ensures.value i, c.deref.ensures.value i)) c.in_ok-plan-in-Ok.ensures in
    let first = g.D.Panel.files c.args.device.now in
    let spoken = g.D.Panel.said c.args.device.now in
    let start = g.D.Panel.account c.args.device.now in
    let middle = g.D.Panel.account c.commit.new.device in
    let end = g.D.Panel.account c.commit_renewal.new.device in
    let later = g.D.Panel.files c.commit.new.device in
    let words = g.D.Panel.said c.commit.new.device in
    let was : StoreView = view_of (string_bytes c.self.inside.dir) c.self.inside.containers.items in
    let opened : IsOpen first was = subst (IsOpen first) (sym c.self.view_is) (c.requires told) in
    let last : State = (change_step true (state_in was) c.args.name.now c.args.change.now).0 in
    let early = c.in_ok-commit-in-Ok.ensures.changes in
    let other : Entry = entry_of c.index.result.now in
    subst (λ (s : StoreView). LeavesSince start end (LeavesBetween first spoken s (change_step true (state_in s) c.args.name.now c.args.change.now).0)) c.self.view_is
    (joined (LeavesBetween first spoken was last) (LeavesRenewed later words c.as_str-in-Ok-4.result.now (entries_of c.change_now_in.new.containers.items) c.in-Ok.at c.key-in-Ok.result.now) start middle end
    (leaves_more start middle
    (IsEither first spoken (λ (other : List ℕ). IsNameAmong c.as_slice.result.now other ⊎ (other ≡ c.as_str-in-Ok-2.result.now)) (replaced c.as_str-in-Ok-2.result.now c.as_str-in-Ok-3.result.now c.as_slice-in-Ok.result.now (written c.as_slice.result.now first)))
    (LeavesBetween first spoken was last)
    (λ left said either. first_leaves c.self.inside.containers.items c.change_now_in.new.containers.items c.self.invariant c.args.name.now c.args.change.now c.in-Ok.at c.in-Ok.ensures first spoken (string_bytes c.self.inside.dir) left said
    (cut_either (string_bytes c.self.inside.dir) c.self.inside.containers.items c.change_now_in.new.containers.items c.args.name.now c.args.change.now c.in-Ok.at c.in-Ok.ensures.changed_at c.self.invariant c.in_ok-plan-in-Ok.plan planned first opened.layout opened.kept c.as_slice.result.now c.as_str-in-Ok-2.result.now c.as_str-in-Ok-3.result.now c.as_slice-in-Ok.result.now c.as_slice.ensures.value c.as_str-in-Ok-2.ensures.value c.as_str-in-Ok-3.ensures.value c.as_slice-in-Ok.ensures.value spoken left said either))
    (c.in_ok-commit-in-Ok.ensures.cut told settled))
    (c.in_err-commit_renewal-in-Ok.ensures.cut told (c.in_ok-commit-in-Ok.ensures.settled told settled))
    (λ left said leaves. then_leaves c.self.inside.containers.items c.change_now_in.new.containers.items c.self.invariant c.args.name.now c.args.change.now c.in-Ok.at c.in-Ok.ensures first spoken (string_bytes c.self.inside.dir) later words
    (λ name foreign. early.others name (λ written. foreign (own_of (string_bytes c.self.inside.dir) c.self.inside.containers.items c.change_now_in.new.containers.items c.args.name.now c.args.change.now c.in-Ok.at c.in-Ok.ensures.changed_at c.self.invariant c.in_ok-plan-in-Ok.plan planned c.as_slice.result.now c.as_str-in-Ok-2.result.now c.as_str-in-Ok-3.result.now c.as_slice.ensures.value c.as_str-in-Ok-2.ensures.value c.as_str-in-Ok-3.ensures.value name written))) early.said other left said
    (subst (λ (t : List ℕ × Key). LeavesState later words t.0 (IsEitherState (entries_of c.change_now_in.new.containers.items) (renewed_at (entries_of c.change_now_in.new.containers.items) c.in-Ok.at t.1 other)) left said) (λ i. (c.as_str-in-Ok-4.ensures.value i, c.key-in-Ok.ensures i)) (leaves other))))

pub returns-in_ok-commit_renewal-in-Ok-clause-changes : goal.returns-in_ok-commit_renewal-in-Ok-clause-changes
returns-in_ok-commit_renewal-in-Ok-clause-changes g c =
    let planned : IsPlanned (string_bytes c.self.inside.dir) c.change_now_in.new.containers.items c.in-Ok.at c.in_ok-plan-in-Ok.plan =
    subst (λ (both : List ℕ × List Kept). IsPlanned both.0 both.1 c.in-Ok.at c.in_ok-plan-in-Ok.plan) (λ i. (c.as_str.ensures.value i, c.deref.ensures.value i)) c.in_ok-plan-in-Ok.ensures in
    let early = c.in_ok-commit-in-Ok.ensures.changes in
    let to_self : (string_bytes c.self.inside.dir) ≡ c.args.self.dir = ap (λ (s : StoreView). s.dir) c.self.view_is in
    changes_then {one = ⊥} (IsOfDirectory c.args.self.dir) (record {
      others = λ other foreign. early.others other (λ written. foreign (subst (λ (d : List ℕ). IsOfDirectory d other) to_self
          (own_of (string_bytes c.self.inside.dir) c.self.inside.containers.items c.change_now_in.new.containers.items c.args.name.now c.args.change.now c.in-Ok.at c.in-Ok.ensures.changed_at c.self.invariant c.in_ok-plan-in-Ok.plan planned c.as_slice.result.now c.as_str-in-Ok-2.result.now c.as_str-in-Ok-3.result.now c.as_slice.ensures.value c.as_str-in-Ok-2.ensures.value c.as_str-in-Ok-3.ensures.value other written)));
      said = early.said;
      count = early.count;
      failed = λ never. absurd never;
    }) (changes_in c.as_str-in-Ok-4.result.now c.args.self.dir (c.as_str-in-Ok-4.ensures.value ∙ to_self) c.in_ok-commit_renewal-in-Ok.ensures.changes) (λ never. absurd (not_fault _ _ never))

pub returns-in_ok-commit_renewal-in-Ok-clause-cut : goal.returns-in_ok-commit_renewal-in-Ok-clause-cut
returns-in_ok-commit_renewal-in-Ok-clause-cut g c told settled =
    let planned : IsPlanned (string_bytes c.self.inside.dir) c.change_now_in.new.containers.items c.in-Ok.at c.in_ok-plan-in-Ok.plan =
    subst (λ (both : List ℕ × List Kept). IsPlanned both.0 both.1 c.in-Ok.at c.in_ok-plan-in-Ok.plan) (λ i. (c.as_str.ensures.value i, c.deref.ensures.value i)) c.in_ok-plan-in-Ok.ensures in
    let first = g.D.Panel.files c.args.device.now in
    let spoken = g.D.Panel.said c.args.device.now in
    let start = g.D.Panel.account c.args.device.now in
    let middle = g.D.Panel.account c.commit.new.device in
    let end = g.D.Panel.account c.commit_renewal.new.device in
    let later = g.D.Panel.files c.commit.new.device in
    let words = g.D.Panel.said c.commit.new.device in
    let was : StoreView = view_of (string_bytes c.self.inside.dir) c.self.inside.containers.items in
    let opened : IsOpen first was = subst (IsOpen first) (sym c.self.view_is) (c.requires told) in
    let last : State = (change_step true (state_in was) c.args.name.now c.args.change.now).0 in
    let early = c.in_ok-commit-in-Ok.ensures.changes in
    let other : Entry = entry_of c.index.result.now in
    subst (λ (s : StoreView). LeavesSince start end (LeavesBetween first spoken s (change_step true (state_in s) c.args.name.now c.args.change.now).0)) c.self.view_is
    (joined (LeavesBetween first spoken was last) (LeavesRenewed later words c.as_str-in-Ok-4.result.now (entries_of c.change_now_in.new.containers.items) c.in-Ok.at c.key-in-Ok.result.now) start middle end
    (leaves_more start middle
    (IsEither first spoken (λ (other : List ℕ). IsNameAmong c.as_slice.result.now other ⊎ (other ≡ c.as_str-in-Ok-2.result.now)) (replaced c.as_str-in-Ok-2.result.now c.as_str-in-Ok-3.result.now c.as_slice-in-Ok.result.now (written c.as_slice.result.now first)))
    (LeavesBetween first spoken was last)
    (λ left said either. first_leaves c.self.inside.containers.items c.change_now_in.new.containers.items c.self.invariant c.args.name.now c.args.change.now c.in-Ok.at c.in-Ok.ensures first spoken (string_bytes c.self.inside.dir) left said
    (cut_either (string_bytes c.self.inside.dir) c.self.inside.containers.items c.change_now_in.new.containers.items c.args.name.now c.args.change.now c.in-Ok.at c.in-Ok.ensures.changed_at c.self.invariant c.in_ok-plan-in-Ok.plan planned first opened.layout opened.kept c.as_slice.result.now c.as_str-in-Ok-2.result.now c.as_str-in-Ok-3.result.now c.as_slice-in-Ok.result.now c.as_slice.ensures.value c.as_str-in-Ok-2.ensures.value c.as_str-in-Ok-3.ensures.value c.as_slice-in-Ok.ensures.value spoken left said either))
    (c.in_ok-commit-in-Ok.ensures.cut told settled))
    (c.in_ok-commit_renewal-in-Ok.ensures.cut told (c.in_ok-commit-in-Ok.ensures.settled told settled))
    (λ left said leaves. then_leaves c.self.inside.containers.items c.change_now_in.new.containers.items c.self.invariant c.args.name.now c.args.change.now c.in-Ok.at c.in-Ok.ensures first spoken (string_bytes c.self.inside.dir) later words
    (λ name foreign. early.others name (λ written. foreign (own_of (string_bytes c.self.inside.dir) c.self.inside.containers.items c.change_now_in.new.containers.items c.args.name.now c.args.change.now c.in-Ok.at c.in-Ok.ensures.changed_at c.self.invariant c.in_ok-plan-in-Ok.plan planned c.as_slice.result.now c.as_str-in-Ok-2.result.now c.as_str-in-Ok-3.result.now c.as_slice.ensures.value c.as_str-in-Ok-2.ensures.value c.as_str-in-Ok-3.ensures.value name written))) early.said other left said
    (subst (λ (t : List ℕ × Key). LeavesState later words t.0 (IsEitherState (entries_of c.change_now_in.new.containers.items) (renewed_at (entries_of c.change_now_in.new.containers.items) c.in-Ok.at t.1 other)) left said) (λ i. (c.as_str-in-Ok-4.ensures.value i, c.key-in-Ok.ensures i)) (leaves other))))

pub returns-in_ok-commit_renewal-in-Ok-clause-made : goal.returns-in_ok-commit_renewal-in-Ok-clause-made
returns-in_ok-commit_renewal-in-Ok-clause-made g c =
    let other : Entry = entry_of c.index.result.now in
    record {
      dir = ap (λ (s : StoreView). s.dir) c.self.view_is;
      is = ap (λ (s : StoreView). change_step true (state_in s) c.args.name.now c.args.change.now) (sym c.self.view_is) ∙ step_now c.self.inside.containers.items c.change_now_in.new.containers.items c.self.invariant c.args.name.now c.args.change.now c.in-Ok.at c.in-Ok.ensures other
          ∙ ap (λ (key : Key). pair_of (state_of (renewed_at (entries_of c.change_now_in.new.containers.items) c.in-Ok.at key other)) Fine) (sym c.key-in-Ok.ensures)
          ∙ ap (λ (es : List Entry). pair_of (state_of es) Fine) (sym (c.in_ok-commit_renewal-in-Ok.ensures.entries other));
    }
