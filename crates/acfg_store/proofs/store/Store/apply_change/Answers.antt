use Rattle.std.proofs.Common.{ℕ, false, List, ◌≡◌, ◌⊎◌, refl, ap, subst, sym, string_bytes}
use Rattle.acfg_commit.specs.Written.{IsNameAmong, replaced, written}
use Rattle.acfg_device.specs.Left.{IsEither, LeavesSince}
use Rattle.acfg_model.specs.State.{State}
use Rattle.acfg_model.specs.Step.{change_step}
use Rattle.acfg_store.specs.Applied.{IsOpen, LeavesBetween, state_in}
use Rattle.acfg_store.specs.declared.containers.Kept.{Kept}
use Rattle.acfg_store.specs.Names.{IsOfDirectory}
use Rattle.acfg_store.specs.Opening.{all_sets_of, entries_of}
use Rattle.acfg_store.specs.Planned.{IsPlanned}
use Rattle.acfg_store.specs.Store.{StoreView}
use Rattle.acfg_store.proofs.Changing.{leaves_more}
use Rattle.acfg_store.proofs.OverridesCommitted.{cut_leaves, layout_of, names_apart, own_of, rests, sets_of_all}
use Rattle.acfg_store.proofs.store.Store.apply_change.Goals as goal

pub returns-in_err-plan-in-Ok-clause-cut : goal.returns-in_err-plan-in-Ok-clause-cut
returns-in_err-plan-in-Ok-clause-cut g c told settled =
    let account = g.D.Panel.account c.args.device.now in
    let first = g.D.Panel.files c.args.device.now in
    let new : State = (change_step false (state_in c.args.self) c.args.name.now c.args.change.now).0 in
    subst (λ (spoken : List ℕ). LeavesSince account account (LeavesBetween first spoken c.args.self new)) (sym (g.met.D.Panel.said_told c.args.device.now))
    (rests account first c.args.self new (g.met.D.Panel.files_told c.args.device.now) settled (c.requires told))

pub returns-in-Err-clause-cut : goal.returns-in-Err-clause-cut
returns-in-Err-clause-cut g c told settled =
    let account = g.D.Panel.account c.args.device.now in
    let first = g.D.Panel.files c.args.device.now in
    let new : State = (change_step false (state_in c.args.self) c.args.name.now c.args.change.now).0 in
    subst (λ (spoken : List ℕ). LeavesSince account account (LeavesBetween first spoken c.args.self new)) (sym (g.met.D.Panel.said_told c.args.device.now))
    (rests account first c.args.self new (g.met.D.Panel.files_told c.args.device.now) settled (c.requires told))

pub commit-requires : goal.commit-requires
commit-requires g c same =
    let planned : IsPlanned (string_bytes c.self.inside.dir) c.change_in.new.containers.items c.in-Ok.at c.in_ok-plan-in-Ok.plan =
    subst (λ (both : List ℕ × List Kept). IsPlanned both.0 both.1 c.in-Ok.at c.in_ok-plan-in-Ok.plan) (λ i. (c.as_str.ensures.value i, c.deref.ensures.value i)) c.in_ok-plan-in-Ok.ensures in
    names_apart (string_bytes c.self.inside.dir) c.self.inside.containers.items c.change_in.new.containers.items c.args.name.now c.args.change.now c.in-Ok.at c.in-Ok.ensures c.self.invariant c.in_ok-plan-in-Ok.plan planned c.as_slice.result.now c.as_str-in-Ok.result.now c.as_str-in-Ok-2.result.now c.as_slice.ensures.value c.as_str-in-Ok.ensures.value c.as_str-in-Ok-2.ensures.value same

pub invariant_of-result : goal.invariant_of-result
invariant_of-result g c = c.in-Ok.ensures.kept

pub returns-in_err-commit-in-Ok-clause-changes : goal.returns-in_err-commit-in-Ok-clause-changes
returns-in_err-commit-in-Ok-clause-changes g c =
    let planned : IsPlanned (string_bytes c.self.inside.dir) c.change_in.new.containers.items c.in-Ok.at c.in_ok-plan-in-Ok.plan =
    subst (λ (both : List ℕ × List Kept). IsPlanned both.0 both.1 c.in-Ok.at c.in_ok-plan-in-Ok.plan) (λ i. (c.as_str.ensures.value i, c.deref.ensures.value i)) c.in_ok-plan-in-Ok.ensures in
    let changes = c.in_err-commit-in-Ok.ensures.changes in
    record {
      others = λ other foreign. changes.others other (λ written. foreign (subst (λ (d : List ℕ). IsOfDirectory d other) (ap (λ (s : StoreView). s.dir) c.self.view_is)
          (own_of (string_bytes c.self.inside.dir) c.self.inside.containers.items c.change_in.new.containers.items c.args.name.now c.args.change.now c.in-Ok.at c.in-Ok.ensures c.self.invariant c.in_ok-plan-in-Ok.plan planned c.as_slice.result.now c.as_str-in-Ok.result.now c.as_str-in-Ok-2.result.now c.as_slice.ensures.value c.as_str-in-Ok.ensures.value c.as_str-in-Ok-2.ensures.value other written)));
      said = changes.said;
      count = changes.count;
      failed = λ _. changes.failed refl;
    }

pub returns-in_err-commit-in-Ok-clause-cut : goal.returns-in_err-commit-in-Ok-clause-cut
returns-in_err-commit-in-Ok-clause-cut g c told settled =
    let planned : IsPlanned (string_bytes c.self.inside.dir) c.change_in.new.containers.items c.in-Ok.at c.in_ok-plan-in-Ok.plan =
    subst (λ (both : List ℕ × List Kept). IsPlanned both.0 both.1 c.in-Ok.at c.in_ok-plan-in-Ok.plan) (λ i. (c.as_str.ensures.value i, c.deref.ensures.value i)) c.in_ok-plan-in-Ok.ensures in
    let first = g.D.Panel.files c.args.device.now in
    let opened : IsOpen first (record { dir = string_bytes c.self.inside.dir; entries = entries_of c.self.inside.containers.items; sets = all_sets_of c.self.inside.containers.items }) =
    subst (IsOpen first) (sym c.self.view_is) (c.requires told) in
    let spoken = g.D.Panel.said c.args.device.now in
    let start = g.D.Panel.account c.args.device.now in
    let end = g.D.Panel.account c.commit.new.device in
    let old : StoreView = record { dir = string_bytes c.self.inside.dir; entries = entries_of c.self.inside.containers.items; sets = all_sets_of c.self.inside.containers.items } in
    subst (λ (s : StoreView). LeavesSince start end (LeavesBetween first spoken s (change_step false (state_in s) c.args.name.now c.args.change.now).0)) c.self.view_is
    (leaves_more start end
    (IsEither first spoken (λ (other : List ℕ). IsNameAmong c.as_slice.result.now other ⊎ (other ≡ c.as_str-in-Ok.result.now))
    (replaced c.as_str-in-Ok.result.now c.as_str-in-Ok-2.result.now c.as_slice-in-Ok.result.now (written c.as_slice.result.now first)))
    (LeavesBetween first spoken old (change_step false (state_in old) c.args.name.now c.args.change.now).0)
    (cut_leaves (string_bytes c.self.inside.dir) c.self.inside.containers.items c.change_in.new.containers.items c.args.name.now c.args.change.now c.in-Ok.at c.in-Ok.ensures c.self.invariant c.in_ok-plan-in-Ok.plan planned first opened.layout opened.kept c.as_slice.result.now c.as_str-in-Ok.result.now c.as_str-in-Ok-2.result.now c.as_slice-in-Ok.result.now c.as_slice.ensures.value c.as_str-in-Ok.ensures.value c.as_str-in-Ok-2.ensures.value c.as_slice-in-Ok.ensures.value spoken)
    (c.in_err-commit-in-Ok.ensures.cut told settled))

pub returns-in_ok-commit-in-Ok-clause-changes : goal.returns-in_ok-commit-in-Ok-clause-changes
returns-in_ok-commit-in-Ok-clause-changes g c =
    let planned : IsPlanned (string_bytes c.self.inside.dir) c.change_in.new.containers.items c.in-Ok.at c.in_ok-plan-in-Ok.plan =
    subst (λ (both : List ℕ × List Kept). IsPlanned both.0 both.1 c.in-Ok.at c.in_ok-plan-in-Ok.plan) (λ i. (c.as_str.ensures.value i, c.deref.ensures.value i)) c.in_ok-plan-in-Ok.ensures in
    let changes = c.in_ok-commit-in-Ok.ensures.changes in
    record {
      others = λ other foreign. changes.others other (λ written. foreign (subst (λ (d : List ℕ). IsOfDirectory d other) (ap (λ (s : StoreView). s.dir) c.self.view_is)
          (own_of (string_bytes c.self.inside.dir) c.self.inside.containers.items c.change_in.new.containers.items c.args.name.now c.args.change.now c.in-Ok.at c.in-Ok.ensures c.self.invariant c.in_ok-plan-in-Ok.plan planned c.as_slice.result.now c.as_str-in-Ok.result.now c.as_str-in-Ok-2.result.now c.as_slice.ensures.value c.as_str-in-Ok.ensures.value c.as_str-in-Ok-2.ensures.value other written)));
      said = changes.said;
      count = changes.count;
      failed = λ never. absurd cc;
    }

pub returns-in_ok-commit-in-Ok-clause-cut : goal.returns-in_ok-commit-in-Ok-clause-cut
returns-in_ok-commit-in-Ok-clause-cut g c told settled =
    let planned : IsPlanned (string_bytes c.self.inside.dir) c.change_in.new.containers.items c.in-Ok.at c.in_ok-plan-in-Ok.plan =
    subst (λ (both : List ℕ × List Kept). IsPlanned both.0 both.1 c.in-Ok.at c.in_ok-plan-in-Ok.plan) (λ i. (c.as_str.ensures.value i, c.deref.ensures.value i)) c.in_ok-plan-in-Ok.ensures in
    let first = g.D.Panel.files c.args.device.now in
    let opened : IsOpen first (record { dir = string_bytes c.self.inside.dir; entries = entries_of c.self.inside.containers.items; sets = all_sets_of c.self.inside.containers.items }) =
    subst (IsOpen first) (sym c.self.view_is) (c.requires told) in
    let spoken = g.D.Panel.said c.args.device.now in
    let start = g.D.Panel.account c.args.device.now in
    let end = g.D.Panel.account c.commit.new.device in
    let old : StoreView = record { dir = string_bytes c.self.inside.dir; entries = entries_of c.self.inside.containers.items; sets = all_sets_of c.self.inside.containers.items } in
    subst (λ (s : StoreView). LeavesSince start end (LeavesBetween first spoken s (change_step false (state_in s) c.args.name.now c.args.change.now).0)) c.self.view_is
    (leaves_more start end
    (IsEither first spoken (λ (other : List ℕ). IsNameAmong c.as_slice.result.now other ⊎ (other ≡ c.as_str-in-Ok.result.now))
    (replaced c.as_str-in-Ok.result.now c.as_str-in-Ok-2.result.now c.as_slice-in-Ok.result.now (written c.as_slice.result.now first)))
    (LeavesBetween first spoken old (change_step false (state_in old) c.args.name.now c.args.change.now).0)
    (cut_leaves (string_bytes c.self.inside.dir) c.self.inside.containers.items c.change_in.new.containers.items c.args.name.now c.args.change.now c.in-Ok.at c.in-Ok.ensures c.self.invariant c.in_ok-plan-in-Ok.plan planned first opened.layout opened.kept c.as_slice.result.now c.as_str-in-Ok.result.now c.as_str-in-Ok-2.result.now c.as_slice-in-Ok.result.now c.as_slice.ensures.value c.as_str-in-Ok.ensures.value c.as_str-in-Ok-2.ensures.value c.as_slice-in-Ok.ensures.value spoken)
    (c.in_ok-commit-in-Ok.ensures.cut told settled))

pub returns-in_ok-commit-in-Ok-clause-open : goal.returns-in_ok-commit-in-Ok-clause-open
returns-in_ok-commit-in-Ok-clause-open g c told =
    let planned : IsPlanned (string_bytes c.self.inside.dir) c.change_in.new.containers.items c.in-Ok.at c.in_ok-plan-in-Ok.plan =
    subst (λ (both : List ℕ × List Kept). IsPlanned both.0 both.1 c.in-Ok.at c.in_ok-plan-in-Ok.plan) (λ i. (c.as_str.ensures.value i, c.deref.ensures.value i)) c.in_ok-plan-in-Ok.ensures in
    let first = g.D.Panel.files c.args.device.now in
    let opened : IsOpen first (record { dir = string_bytes c.self.inside.dir; entries = entries_of c.self.inside.containers.items; sets = all_sets_of c.self.inside.containers.items }) =
    subst (IsOpen first) (sym c.self.view_is) (c.requires told) in
    let now = g.D.Panel.files c.commit.new.device in
    record {
      layout = layout_of (string_bytes c.self.inside.dir) c.self.inside.containers.items c.change_in.new.containers.items c.args.name.now c.args.change.now c.in-Ok.at c.in-Ok.ensures c.self.invariant c.in_ok-plan-in-Ok.plan planned first opened.layout opened.kept c.as_slice.result.now c.as_str-in-Ok.result.now c.as_str-in-Ok-2.result.now c.as_slice-in-Ok.result.now c.as_slice.ensures.value c.as_str-in-Ok.ensures.value c.as_str-in-Ok-2.ensures.value c.as_slice-in-Ok.ensures.value now (c.in_ok-commit-in-Ok.ensures.files told);
      kept = sets_of_all (string_bytes c.self.inside.dir) c.self.inside.containers.items c.change_in.new.containers.items c.args.name.now c.args.change.now c.in-Ok.at c.in-Ok.ensures c.self.invariant c.in_ok-plan-in-Ok.plan planned first opened.layout opened.kept c.as_slice.result.now c.as_str-in-Ok.result.now c.as_str-in-Ok-2.result.now c.as_slice-in-Ok.result.now c.as_slice.ensures.value c.as_str-in-Ok.ensures.value c.as_str-in-Ok-2.ensures.value c.as_slice-in-Ok.ensures.value now (c.in_ok-commit-in-Ok.ensures.files told);
    }
