use Rattle.std.proofs.Common.{◌≡◌, ℕ, List, refl, ◌∙◌}
use Rattle.acfg_device.proofs.Carried.{carry_same, carry_start, carry_sync, carry_write, carry_write_err}
use Rattle.acfg_device.proofs.Naming.{updated}
use Rattle.acfg_commit.proofs.single.write_synced.Goals as goal

pub returns-in_err-write-clause-cut : goal.returns-in_err-write-clause-cut
returns-in_err-write-clause-cut g c told alone = carry_write_err (λ (other : List ℕ). other ≡ c.args.name.now) _ _ _ (carry_start _ _) _ refl alone (c.in_err-write.ensures.err told)

pub returns-in_err-sync-clause-cut : goal.returns-in_err-sync-clause-cut
returns-in_err-sync-clause-cut g c told alone =
    carry_same (λ (other : List ℕ). other ≡ c.args.name.now) _ _ _ (carry_write _ _ _ _ (carry_start _ _) _ _ refl alone (c.in_ok-write.ensures.ok told)) (c.in_err-sync.ensures.err told)

pub returns-clause-files : goal.returns-clause-files
returns-clause-files g c told = c.in_ok-sync.ensures.syncs.files ∙ updated _ _ _ _ (c.in_ok-write.ensures.file told) c.in_ok-write.ensures.changes.others

pub returns-clause-cut : goal.returns-clause-cut
returns-clause-cut g c told alone =
    carry_sync (λ (other : List ℕ). other ≡ c.args.name.now) _ _ _ (carry_write _ _ _ _ (carry_start _ _) _ _ refl alone (c.in_ok-write.ensures.ok told)) _ (c.in_ok-sync.ensures.ok told)
