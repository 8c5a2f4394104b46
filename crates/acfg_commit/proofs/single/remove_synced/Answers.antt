use Rattle.std.proofs.Common.{◌≡◌, ℕ, List, refl, ◌∙◌}
use Rattle.acfg_device.proofs.Carried.{carry_remove, carry_remove_err, carry_same, carry_start, carry_sync_names}
use Rattle.acfg_device.proofs.Naming.{updated}
use Rattle.acfg_device.proofs.Runs.{settled_run}
use Rattle.acfg_commit.proofs.single.remove_synced.Goals as goal

pub returns-in_err-remove-clause-others : goal.returns-in_err-remove-clause-others
returns-in_err-remove-clause-others g c told = carry_remove_err (λ (other : List ℕ). other ≡ c.args.name.now) _ _ _ (carry_start _ _) _ refl (c.in_err-remove.ensures.err told)

pub returns-in_err-remove-clause-cut : goal.returns-in_err-remove-clause-cut
returns-in_err-remove-clause-cut g c told settled =
    settled_run _ _ _ _ (g.met.D.Panel.files_told c.args.device.now) (g.met.D.Panel.said_told c.args.device.now) settled (returns-in_err-remove-clause-others g c told)

pub returns-in_err-sync_names-clause-others : goal.returns-in_err-sync_names-clause-others
returns-in_err-sync_names-clause-others g c told =
    carry_same (λ (other : List ℕ). other ≡ c.args.name.now) _ _ _ (carry_remove _ _ _ _ (carry_start _ _) _ refl (c.in_ok-remove.ensures.ok told)) (c.in_err-sync_names.ensures.err told)

pub returns-in_err-sync_names-clause-cut : goal.returns-in_err-sync_names-clause-cut
returns-in_err-sync_names-clause-cut g c told settled =
    settled_run _ _ _ _ (g.met.D.Panel.files_told c.args.device.now) (g.met.D.Panel.said_told c.args.device.now) settled (returns-in_err-sync_names-clause-others g c told)

pub returns-clause-files : goal.returns-clause-files
returns-clause-files g c told = c.in_ok-sync_names.ensures.syncs.files ∙ updated _ _ _ _ (c.in_ok-remove.ensures.gone told) c.in_ok-remove.ensures.changes.others

pub returns-clause-others : goal.returns-clause-others
returns-clause-others g c told =
    carry_sync_names (λ (other : List ℕ). other ≡ c.args.name.now) _ _ _ (carry_remove _ _ _ _ (carry_start _ _) _ refl (c.in_ok-remove.ensures.ok told)) (c.in_ok-sync_names.ensures.ok told)

pub returns-clause-cut : goal.returns-clause-cut
returns-clause-cut g c told settled =
    settled_run _ _ _ _ (g.met.D.Panel.files_told c.args.device.now) (g.met.D.Panel.said_told c.args.device.now) settled (returns-clause-others g c told)
