use Rattle.std.proofs.Common.{◌≡◌, ◌⊎◌, ℕ, ◌<◌, List, length, refl, sym, ap, subst, ◌∙◌, string_bytes}
use Rattle.std.proofs.lemmas.List.{get_or_default, length-map}
use Rattle.acfg_commit.specs.Written.{IsNameAmong, replaced, written}
use Rattle.acfg_device.specs.Left.{IsEither, LeavesSince}
use Rattle.acfg_store.specs.declared.containers.Kept.{Kept}
use Rattle.acfg_store.specs.Applied.{IsOpen}
use Rattle.acfg_store.specs.BootPlans.{IsBootPlan, IsBootedBy, LeavesBooted, booted_at}
use Rattle.acfg_store.specs.Kept.{entry_of}
use Rattle.acfg_store.specs.Names.{IsOfDirectory}
use Rattle.acfg_store.specs.Opening.{all_sets_of, entries_of}
use Rattle.acfg_store.specs.Store.{StoreView}
use Rattle.acfg_store.proofs.Changing.{leaves_more}
use Rattle.acfg_store.proofs.BootCommitted.{boot_leaves, boot_rests, booted_apart, booted_own, entries_booted, kept_booted, layout_booted, sets_booted}
use Rattle.acfg_store.proofs.CopyCommitted.{kept_valid}
use Rattle.acfg_store.proofs.store.Store.boot_at.Goals as goal

pub plan_boot-requires-clause-valid : goal.plan_boot-requires-clause-valid
plan_boot-requires-clause-valid g c =
    let old : List Kept = c.self.inside.containers.items in
    let within : c.args.at < length old = subst (λ (n : ℕ). c.args.at < n) (length-map old entry_of) (subst (λ (s : StoreView). c.args.at < length s.entries) (sym c.self.view_is) c.requires.within) in
    kept_valid old c.self.invariant c.args.at within c.index.result.now c.index.ensures

pub returns-in_err-plan-clause-cut : goal.returns-in_err-plan-clause-cut
returns-in_err-plan-clause-cut g c told settled =
    let account = g.D.Panel.account c.args.device.now in
    let first = g.D.Panel.files c.args.device.now in
    subst (λ (spoken : List ℕ). LeavesSince account account (LeavesBooted first spoken c.args.self c.args.at)) (sym (g.met.D.Panel.said_told c.args.device.now))
    (boot_rests account first c.args.self c.args.at (g.met.D.Panel.files_told c.args.device.now) settled (c.requires.open told))

pub commit-requires : goal.commit-requires
commit-requires g c same =
    let dir : List ℕ = string_bytes c.self.inside.dir in
    let old : List Kept = c.self.inside.containers.items in
    let one : Kept = c.index.result.now in
    let plan = c.in_ok-plan.plan in
    let within : c.args.at < length old = subst (λ (n : ℕ). c.args.at < n) (length-map old entry_of) (subst (λ (s : StoreView). c.args.at < length s.entries) (sym c.self.view_is) c.requires.within) in
    let planned : IsBootPlan dir one plan = subst (λ (d : List ℕ). IsBootPlan d one plan) c.as_str.ensures.value c.in_ok-plan.ensures in
    booted_apart dir old c.self.invariant c.args.at within one c.index.ensures plan planned c.as_str-2.result.now c.as_str-3.result.now c.as_str-2.ensures.value c.as_str-3.ensures.value same

pub returns-in_err-commit-clause-changes : goal.returns-in_err-commit-clause-changes
returns-in_err-commit-clause-changes g c =
    let dir : List ℕ = string_bytes c.self.inside.dir in
    let old : List Kept = c.self.inside.containers.items in
    let one : Kept = c.index.result.now in
    let plan = c.in_ok-plan.plan in
    let within : c.args.at < length old = subst (λ (n : ℕ). c.args.at < n) (length-map old entry_of) (subst (λ (s : StoreView). c.args.at < length s.entries) (sym c.self.view_is) c.requires.within) in
    let planned : IsBootPlan dir one plan = subst (λ (d : List ℕ). IsBootPlan d one plan) c.as_str.ensures.value c.in_ok-plan.ensures in
    let changes = c.in_err-commit.ensures.changes in
    record {
      others = λ other foreign. changes.others other (λ written. foreign (subst (λ (d : List ℕ). IsOfDirectory d other) (ap (λ (s : StoreView). s.dir) c.self.view_is)
          (booted_own dir old c.self.invariant c.args.at within one c.index.ensures plan planned c.as_slice.result.now c.as_str-2.result.now c.as_str-3.result.now c.as_slice.ensures.value c.as_str-2.ensures.value c.as_str-3.ensures.value other written)));
      said = changes.said;
      count = changes.count;
      failed = λ _. changes.failed refl;
    }

pub returns-in_err-commit-clause-cut : goal.returns-in_err-commit-clause-cut
returns-in_err-commit-clause-cut g c told settled =
    let dir : List ℕ = string_bytes c.self.inside.dir in
    let old : List Kept = c.self.inside.containers.items in
    let one : Kept = c.index.result.now in
    let plan = c.in_ok-plan.plan in
    let within : c.args.at < length old = subst (λ (n : ℕ). c.args.at < n) (length-map old entry_of) (subst (λ (s : StoreView). c.args.at < length s.entries) (sym c.self.view_is) c.requires.within) in
    let planned : IsBootPlan dir one plan = subst (λ (d : List ℕ). IsBootPlan d one plan) c.as_str.ensures.value c.in_ok-plan.ensures in
    let first = g.D.Panel.files c.args.device.now in
    let spoken = g.D.Panel.said c.args.device.now in
    let start = g.D.Panel.account c.args.device.now in
    let end = g.D.Panel.account c.commit.new.device in
    let was : StoreView = record { dir = dir; entries = entries_of old; sets = all_sets_of old } in
    let opened : IsOpen first was = subst (IsOpen first) (sym c.self.view_is) (c.requires.open told) in
    subst (λ (s : StoreView). LeavesSince start end (LeavesBooted first spoken s c.args.at)) c.self.view_is
    (leaves_more start end
    (IsEither first spoken (λ (other : List ℕ). IsNameAmong c.as_slice.result.now other ⊎ (other ≡ c.as_str-2.result.now)) (replaced c.as_str-2.result.now c.as_str-3.result.now c.as_slice-2.result.now (written c.as_slice.result.now first)))
    (LeavesBooted first spoken was c.args.at)
    (boot_leaves dir old c.self.invariant c.args.at within one c.index.ensures plan planned first opened.layout opened.kept c.as_slice.result.now c.as_str-2.result.now c.as_str-3.result.now c.as_slice-2.result.now
    c.as_slice.ensures.value c.as_str-2.ensures.value c.as_str-3.ensures.value c.as_slice-2.ensures.value spoken) (c.in_err-commit.ensures.cut told settled))

pub invariant_of-result : goal.invariant_of-result
invariant_of-result g c =
    let dir : List ℕ = string_bytes c.self.inside.dir in
    let old : List Kept = c.self.inside.containers.items in
    let one : Kept = c.index.result.now in
    let plan = c.in_ok-plan.plan in
    let within : c.args.at < length old = subst (λ (n : ℕ). c.args.at < n) (length-map old entry_of) (subst (λ (s : StoreView). c.args.at < length s.entries) (sym c.self.view_is) c.requires.within) in
    let planned : IsBootPlan dir one plan = subst (λ (d : List ℕ). IsBootPlan d one plan) c.as_str.ensures.value c.in_ok-plan.ensures in
    let new : Kept = c.take_boot.new.self in
    let mine = c.index_mut-one.result.now in
    let same : mine ≡ one = c.index_mut-one.ensures.value ∙ get_or_default old c.args.at mine one within ∙ sym c.index.ensures in
    let by : IsBootedBy plan.writes.boot one new = subst (λ (k : Kept). IsBootedBy plan.writes.boot k new) same c.take_boot.ensures in
    kept_booted dir old c.self.invariant c.args.at within one c.index.ensures plan planned new by

pub returns-clause-entries : goal.returns-clause-entries
returns-clause-entries g c other =
    let dir : List ℕ = string_bytes c.self.inside.dir in
    let old : List Kept = c.self.inside.containers.items in
    let one : Kept = c.index.result.now in
    let plan = c.in_ok-plan.plan in
    let within : c.args.at < length old = subst (λ (n : ℕ). c.args.at < n) (length-map old entry_of) (subst (λ (s : StoreView). c.args.at < length s.entries) (sym c.self.view_is) c.requires.within) in
    let planned : IsBootPlan dir one plan = subst (λ (d : List ℕ). IsBootPlan d one plan) c.as_str.ensures.value c.in_ok-plan.ensures in
    let new : Kept = c.take_boot.new.self in
    let mine = c.index_mut-one.result.now in
    let same : mine ≡ one = c.index_mut-one.ensures.value ∙ get_or_default old c.args.at mine one within ∙ sym c.index.ensures in
    let by : IsBootedBy plan.writes.boot one new = subst (λ (k : Kept). IsBootedBy plan.writes.boot k new) same c.take_boot.ensures in
    entries_booted dir old c.self.invariant c.args.at within one c.index.ensures plan planned new by other ∙ ap (λ (s : StoreView). booted_at s.entries c.args.at other) c.self.view_is

pub returns-clause-changes : goal.returns-clause-changes
returns-clause-changes g c =
    let dir : List ℕ = string_bytes c.self.inside.dir in
    let old : List Kept = c.self.inside.containers.items in
    let one : Kept = c.index.result.now in
    let plan = c.in_ok-plan.plan in
    let within : c.args.at < length old = subst (λ (n : ℕ). c.args.at < n) (length-map old entry_of) (subst (λ (s : StoreView). c.args.at < length s.entries) (sym c.self.view_is) c.requires.within) in
    let planned : IsBootPlan dir one plan = subst (λ (d : List ℕ). IsBootPlan d one plan) c.as_str.ensures.value c.in_ok-plan.ensures in
    let changes = c.in_ok-commit.ensures.changes in
    record {
      others = λ other foreign. changes.others other (λ written. foreign (subst (λ (d : List ℕ). IsOfDirectory d other) (ap (λ (s : StoreView). s.dir) c.self.view_is)
          (booted_own dir old c.self.invariant c.args.at within one c.index.ensures plan planned c.as_slice.result.now c.as_str-2.result.now c.as_str-3.result.now c.as_slice.ensures.value c.as_str-2.ensures.value c.as_str-3.ensures.value other written)));
      said = changes.said;
      count = changes.count;
      failed = λ never. absurd cc;
    }

pub returns-clause-cut : goal.returns-clause-cut
returns-clause-cut g c told settled =
    let dir : List ℕ = string_bytes c.self.inside.dir in
    let old : List Kept = c.self.inside.containers.items in
    let one : Kept = c.index.result.now in
    let plan = c.in_ok-plan.plan in
    let within : c.args.at < length old = subst (λ (n : ℕ). c.args.at < n) (length-map old entry_of) (subst (λ (s : StoreView). c.args.at < length s.entries) (sym c.self.view_is) c.requires.within) in
    let planned : IsBootPlan dir one plan = subst (λ (d : List ℕ). IsBootPlan d one plan) c.as_str.ensures.value c.in_ok-plan.ensures in
    let first = g.D.Panel.files c.args.device.now in
    let spoken = g.D.Panel.said c.args.device.now in
    let start = g.D.Panel.account c.args.device.now in
    let end = g.D.Panel.account c.commit.new.device in
    let was : StoreView = record { dir = dir; entries = entries_of old; sets = all_sets_of old } in
    let opened : IsOpen first was = subst (IsOpen first) (sym c.self.view_is) (c.requires.open told) in
    subst (λ (s : StoreView). LeavesSince start end (LeavesBooted first spoken s c.args.at)) c.self.view_is
    (leaves_more start end
    (IsEither first spoken (λ (other : List ℕ). IsNameAmong c.as_slice.result.now other ⊎ (other ≡ c.as_str-2.result.now)) (replaced c.as_str-2.result.now c.as_str-3.result.now c.as_slice-2.result.now (written c.as_slice.result.now first)))
    (LeavesBooted first spoken was c.args.at)
    (boot_leaves dir old c.self.invariant c.args.at within one c.index.ensures plan planned first opened.layout opened.kept c.as_slice.result.now c.as_str-2.result.now c.as_str-3.result.now c.as_slice-2.result.now
    c.as_slice.ensures.value c.as_str-2.ensures.value c.as_str-3.ensures.value c.as_slice-2.ensures.value spoken) (c.in_ok-commit.ensures.cut told settled))

pub returns-clause-open : goal.returns-clause-open
returns-clause-open g c told =
    let dir : List ℕ = string_bytes c.self.inside.dir in
    let old : List Kept = c.self.inside.containers.items in
    let one : Kept = c.index.result.now in
    let plan = c.in_ok-plan.plan in
    let within : c.args.at < length old = subst (λ (n : ℕ). c.args.at < n) (length-map old entry_of) (subst (λ (s : StoreView). c.args.at < length s.entries) (sym c.self.view_is) c.requires.within) in
    let planned : IsBootPlan dir one plan = subst (λ (d : List ℕ). IsBootPlan d one plan) c.as_str.ensures.value c.in_ok-plan.ensures in
    let new : Kept = c.take_boot.new.self in
    let mine = c.index_mut-one.result.now in
    let same : mine ≡ one = c.index_mut-one.ensures.value ∙ get_or_default old c.args.at mine one within ∙ sym c.index.ensures in
    let by : IsBootedBy plan.writes.boot one new = subst (λ (k : Kept). IsBootedBy plan.writes.boot k new) same c.take_boot.ensures in
    let first = g.D.Panel.files c.args.device.now in
    let spoken = g.D.Panel.said c.args.device.now in
    let start = g.D.Panel.account c.args.device.now in
    let end = g.D.Panel.account c.commit.new.device in
    let was : StoreView = record { dir = dir; entries = entries_of old; sets = all_sets_of old } in
    let opened : IsOpen first was = subst (IsOpen first) (sym c.self.view_is) (c.requires.open told) in
    let now = g.D.Panel.files c.commit.new.device in
    record {
      layout = layout_booted dir old c.self.invariant c.args.at within one c.index.ensures plan planned first opened.layout opened.kept c.as_slice.result.now c.as_str-2.result.now c.as_str-3.result.now c.as_slice-2.result.now
          c.as_slice.ensures.value c.as_str-2.ensures.value c.as_str-3.ensures.value c.as_slice-2.ensures.value new by now (c.in_ok-commit.ensures.files told);
      kept = sets_booted dir old c.self.invariant c.args.at within one c.index.ensures plan planned first opened.layout opened.kept c.as_slice.result.now c.as_str-2.result.now c.as_str-3.result.now c.as_slice-2.result.now
          c.as_slice.ensures.value c.as_str-2.ensures.value c.as_str-3.ensures.value c.as_slice-2.ensures.value new by now (c.in_ok-commit.ensures.files told);
    }
