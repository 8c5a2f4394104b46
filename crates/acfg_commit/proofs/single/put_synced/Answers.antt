use Rattle.std.proofs.Common.{◌≡◌, ⊎_elim, ℕ, List, refl, ◌∙◌}
use Rattle.acfg_device.proofs.Carried.{carry_same, carry_start, carry_sync, carry_write_at, carry_write_at_err}
use Rattle.acfg_device.proofs.Moments.{stays}
use Rattle.acfg_device.proofs.Naming.{updated}
use Rattle.acfg_commit.proofs.Putting.{put, then_synced, untouched}
use Rattle.acfg_commit.proofs.single.put_synced.Goals as goal

pub returns-in_err-write_at-clause-cut : goal.returns-in_err-write_at-clause-cut
returns-in_err-write_at-clause-cut g c told settled =
    let first = g.met.D.Panel.files_told c.args.device.now in
    let spoken = g.met.D.Panel.said_told c.args.device.now in
    ⊎_elim
    (stays _ _ _ _ (untouched _ _ _ _ _ _ first spoken settled (c.requires told)))
    (λ half. put _ _ _ _ _ _ first spoken settled (c.requires told) _ half.0 half.1 half.2)
    (c.in_err-write_at.ensures.err told)

pub returns-in_err-write_at-clause-others : goal.returns-in_err-write_at-clause-others
returns-in_err-write_at-clause-others g c told alone = carry_write_at_err (λ (other : List ℕ). other ≡ c.args.name.now) _ _ _ (carry_start _ _) _ _ _ refl alone (c.in_err-write_at.ensures.err told)

pub returns-in_err-sync-clause-cut : goal.returns-in_err-sync-clause-cut
returns-in_err-sync-clause-cut g c told settled =
    stays _ _ _ _
    (put _ _ _ _ _ _ (g.met.D.Panel.files_told c.args.device.now) (g.met.D.Panel.said_told c.args.device.now) settled (c.requires told) _ _ refl (c.in_ok-write_at.ensures.ok told))
    (c.in_err-sync.ensures.err told)

pub returns-in_err-sync-clause-others : goal.returns-in_err-sync-clause-others
returns-in_err-sync-clause-others g c told alone =
    carry_same (λ (other : List ℕ). other ≡ c.args.name.now) _ _ _ (carry_write_at _ _ _ _ (carry_start _ _) _ c.args.at c.args.bytes.now refl alone (c.in_ok-write_at.ensures.ok told)) (c.in_err-sync.ensures.err told)

pub returns-clause-files : goal.returns-clause-files
returns-clause-files g c told = c.in_ok-sync.ensures.syncs.files ∙ updated _ _ _ _ (c.in_ok-write_at.ensures.file told) c.in_ok-write_at.ensures.changes.others

pub returns-clause-cut : goal.returns-clause-cut
returns-clause-cut g c told settled =
    let first = g.met.D.Panel.files_told c.args.device.now in
    let spoken = g.met.D.Panel.said_told c.args.device.now in
    then_synced _ _ _ _ _ _ first spoken settled (c.requires told) _ _ (put _ _ _ _ _ _ first spoken settled (c.requires told) _ _ refl (c.in_ok-write_at.ensures.ok told)) (c.in_ok-sync.ensures.ok told)

pub returns-clause-others : goal.returns-clause-others
returns-clause-others g c told alone =
    carry_sync (λ (other : List ℕ). other ≡ c.args.name.now) _ _ _ (carry_write_at _ _ _ _ (carry_start _ _) _ c.args.at c.args.bytes.now refl alone (c.in_ok-write_at.ensures.ok told)) _ (c.in_ok-sync.ensures.ok told)
