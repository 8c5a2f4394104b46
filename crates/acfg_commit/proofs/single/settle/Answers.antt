use Rattle.acfg_device.proofs.Moments.{stays}
use Rattle.acfg_device.proofs.Runs.{nothing_changed}
use Rattle.acfg_commit.proofs.Settled.{at_start, file_synced, names_synced}
use Rattle.acfg_commit.proofs.single.settle.Goals as goal

pub returns-in_err-sync-clause-cut : goal.returns-in_err-sync-clause-cut
returns-in_err-sync-clause-cut g c told = stays _ _ _ _ (at_start _) (c.in_err-sync.ensures.err told)

pub returns-in_err-sync-clause-same : goal.returns-in_err-sync-clause-same
returns-in_err-sync-clause-same g c told settled =
    nothing_changed _ _ (g.met.D.Panel.files_told c.args.device.now) (g.met.D.Panel.said_told c.args.device.now) settled (returns-in_err-sync-clause-cut g c told)

pub returns-in_err-sync_names-clause-cut : goal.returns-in_err-sync_names-clause-cut
returns-in_err-sync_names-clause-cut g c told = stays _ _ _ _ (file_synced _ _ _ (c.in_ok-sync.ensures.ok told)) (c.in_err-sync_names.ensures.err told)

pub returns-in_err-sync_names-clause-same : goal.returns-in_err-sync_names-clause-same
returns-in_err-sync_names-clause-same g c told settled =
    nothing_changed _ _ (g.met.D.Panel.files_told c.args.device.now) (g.met.D.Panel.said_told c.args.device.now) settled (returns-in_err-sync_names-clause-cut g c told)

pub returns-clause-cut : goal.returns-clause-cut
returns-clause-cut g c told = names_synced _ _ _ (file_synced _ _ _ (c.in_ok-sync.ensures.ok told)) (c.in_ok-sync_names.ensures.ok told)

pub returns-clause-same : goal.returns-clause-same
returns-clause-same g c told settled =
    nothing_changed _ _ (g.met.D.Panel.files_told c.args.device.now) (g.met.D.Panel.said_told c.args.device.now) settled (returns-clause-cut g c told)
