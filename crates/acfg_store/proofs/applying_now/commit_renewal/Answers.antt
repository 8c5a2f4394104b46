use Rattle.std.proofs.Common.{ℕ, List, ◌⊎◌, ◌≡◌, refl}
use Rattle.acfg_commit.specs.Written.{IsNameAmong, replaced, written}
use Rattle.acfg_device.specs.Left.{IsEither}
use Rattle.acfg_store.specs.BootPlans.{LeavesRenewed}
use Rattle.acfg_store.specs.Opening.{entries_of}
use Rattle.acfg_store.proofs.Changing.{leaves_more}
use Rattle.acfg_store.proofs.RenewalCommitted.{entries_renewed, kept_renewed, open_renewed, renewal_apart, renewal_leaves, renewal_own}
use Rattle.acfg_store.proofs.applying_now.commit_renewal.Goals as goal

pub commit-requires : goal.commit-requires
commit-requires g c same = renewal_apart c.args.dir.now c.args.containers.now.items c.requires.kept c.args.at c.requires.within c.args.key.now c.args.plan c.requires.planned c.requires.renewable c.as_str.result.now c.as_str-2.result.now c.as_str.ensures.value c.as_str-2.ensures.value same

pub returns-in_err-commit-clause-changes : goal.returns-in_err-commit-clause-changes
returns-in_err-commit-clause-changes g c =
    let changes = c.in_err-commit.ensures.changes in
    record {
      others = λ other foreign. changes.others other (λ written. foreign (renewal_own c.args.dir.now c.args.containers.now.items c.requires.kept c.args.at c.requires.within c.args.key.now c.args.plan c.requires.planned c.requires.renewable c.as_slice.result.now c.as_str.result.now c.as_str-2.result.now c.as_slice.ensures.value c.as_str.ensures.value c.as_str-2.ensures.value other written));
      said = changes.said;
      count = changes.count;
      failed = λ _. changes.failed refl;
    }

pub returns-in_err-commit-clause-cut : goal.returns-in_err-commit-clause-cut
returns-in_err-commit-clause-cut g c told settled =
    let first = g.D.Panel.files c.args.device.now in
    let spoken = g.D.Panel.said c.args.device.now in
    leaves_more (g.D.Panel.account c.args.device.now) (g.D.Panel.account c.commit.new.device)
    (IsEither first spoken (λ (other : List ℕ). IsNameAmong c.as_slice.result.now other ⊎ (other ≡ c.as_str.result.now)) (replaced c.as_str.result.now c.as_str-2.result.now c.as_slice-2.result.now (written c.as_slice.result.now first)))
    (LeavesRenewed first spoken c.args.dir.now (entries_of c.args.containers.now.items) c.args.at c.args.key.now)
    (renewal_leaves c.args.dir.now c.args.containers.now.items c.requires.kept c.args.at c.requires.within c.args.key.now c.args.plan c.requires.planned c.requires.renewable first (c.requires.open told) c.as_slice.result.now c.as_str.result.now c.as_str-2.result.now c.as_slice-2.result.now c.as_slice.ensures.value c.as_str.ensures.value c.as_str-2.ensures.value c.as_slice-2.ensures.value spoken) (c.in_err-commit.ensures.cut told settled)

pub returns-clause-changes : goal.returns-clause-changes
returns-clause-changes g c =
    let changes = c.in_ok-commit.ensures.changes in
    record {
      others = λ other foreign. changes.others other (λ written. foreign (renewal_own c.args.dir.now c.args.containers.now.items c.requires.kept c.args.at c.requires.within c.args.key.now c.args.plan c.requires.planned c.requires.renewable c.as_slice.result.now c.as_str.result.now c.as_str-2.result.now c.as_slice.ensures.value c.as_str.ensures.value c.as_str-2.ensures.value other written));
      said = changes.said;
      count = changes.count;
      failed = λ never. absurd cc;
    }

pub returns-clause-cut : goal.returns-clause-cut
returns-clause-cut g c told settled =
    let first = g.D.Panel.files c.args.device.now in
    let spoken = g.D.Panel.said c.args.device.now in
    leaves_more (g.D.Panel.account c.args.device.now) (g.D.Panel.account c.commit.new.device)
    (IsEither first spoken (λ (other : List ℕ). IsNameAmong c.as_slice.result.now other ⊎ (other ≡ c.as_str.result.now)) (replaced c.as_str.result.now c.as_str-2.result.now c.as_slice-2.result.now (written c.as_slice.result.now first)))
    (LeavesRenewed first spoken c.args.dir.now (entries_of c.args.containers.now.items) c.args.at c.args.key.now)
    (renewal_leaves c.args.dir.now c.args.containers.now.items c.requires.kept c.args.at c.requires.within c.args.key.now c.args.plan c.requires.planned c.requires.renewable first (c.requires.open told) c.as_slice.result.now c.as_str.result.now c.as_str-2.result.now c.as_slice-2.result.now c.as_slice.ensures.value c.as_str.ensures.value c.as_str-2.ensures.value c.as_slice-2.ensures.value spoken) (c.in_ok-commit.ensures.cut told settled)

pub returns-clause-kept : goal.returns-clause-kept
returns-clause-kept g c = kept_renewed c.args.dir.now c.args.containers.now.items c.requires.kept c.args.at c.requires.within c.args.key.now c.args.plan c.requires.planned c.requires.renewable c.index_mut-one.result.now c.index_mut-one.ensures.value c.take_renewed.new.self c.take_renewed.ensures

pub returns-clause-entries : goal.returns-clause-entries
returns-clause-entries g c other = entries_renewed c.args.dir.now c.args.containers.now.items c.requires.kept c.args.at c.requires.within c.args.key.now c.args.plan c.requires.planned c.requires.renewable c.index_mut-one.result.now c.index_mut-one.ensures.value c.take_renewed.new.self c.take_renewed.ensures other

pub returns-clause-open : goal.returns-clause-open
returns-clause-open g c told =
    open_renewed c.args.dir.now c.args.containers.now.items c.requires.kept c.args.at c.requires.within c.args.key.now c.args.plan c.requires.planned c.requires.renewable (g.D.Panel.files c.args.device.now) (c.requires.open told) c.as_slice.result.now c.as_str.result.now c.as_str-2.result.now c.as_slice-2.result.now c.as_slice.ensures.value c.as_str.ensures.value c.as_str-2.ensures.value c.as_slice-2.ensures.value c.index_mut-one.result.now c.index_mut-one.ensures.value c.take_renewed.new.self c.take_renewed.ensures
    (g.D.Panel.files c.commit.new.device) (c.in_ok-commit.ensures.files told)
