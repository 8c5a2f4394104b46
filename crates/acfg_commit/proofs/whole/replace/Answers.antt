use Rattle.std.proofs.Common.{inr, ⊎_elim, ℕ, List, None, ◌∙◌, ap}
use Rattle.std.specs.Map.{update}
use Rattle.std.specs.Str.{bytes_eq}
use Rattle.acfg_device.specs.Panel.{Files}
use Rattle.acfg_device.proofs.Moments.{stays}
use Rattle.acfg_device.proofs.Naming.{moved}
use Rattle.acfg_device.proofs.Runs.{carry_old}
use Rattle.acfg_commit.proofs.Replacing.{names_synced, renamed, renamed_files, settled, written}
use Rattle.acfg_commit.proofs.whole.replace.Goals as goal

pub returns-in_err-write_synced-clause-cut : goal.returns-in_err-write_synced-clause-cut
returns-in_err-write_synced-clause-cut g c told ready = carry_old _ _ (c.in_err-write_synced.ensures.cut told (inr (ready.free c.args.beside.now)))

pub returns-in_err-rename-clause-cut : goal.returns-in_err-rename-clause-cut
returns-in_err-rename-clause-cut g c told ready =
    let first = g.met.D.Panel.files_told c.args.device.now in
    let cut = c.in_ok-write_synced.ensures.cut told (inr (ready.free c.args.beside.now)) in
    let disk = c.in_ok-write_synced.ensures.disk told in
    ⊎_elim
    (stays _ _ _ _ (written _ _ _ _ _ _ first c.requires ready cut disk))
    (λ done. renamed _ _ _ _ _ _ first c.requires ready cut disk _ done)
    (c.in_err-rename.ensures.err told)

pub returns-in_err-sync_names-clause-cut : goal.returns-in_err-sync_names-clause-cut
returns-in_err-sync_names-clause-cut g c told ready =
    let cut = c.in_ok-write_synced.ensures.cut told (inr (ready.free c.args.beside.now)) in
    stays _ _ _ _
    (renamed _ _ _ _ _ _ (g.met.D.Panel.files_told c.args.device.now) c.requires ready cut (c.in_ok-write_synced.ensures.disk told) _ (c.in_ok-rename.ensures.ok told))
    (c.in_err-sync_names.ensures.err told)

pub returns-clause-cut : goal.returns-clause-cut
returns-clause-cut g c told ready =
    let cut = c.in_ok-write_synced.ensures.cut told (inr (ready.free c.args.beside.now)) in
    names_synced _ _ _ _ _ _ (g.met.D.Panel.files_told c.args.device.now) c.requires ready cut (c.in_ok-write_synced.ensures.disk told) _ (c.in_ok-rename.ensures.ok told) _ (c.in_ok-sync_names.ensures.ok told)

pub returns-clause-files : goal.returns-clause-files
returns-clause-files g c told =
    let beside : List ℕ = c.args.beside.now in
    c.in_ok-sync_names.ensures.syncs.files
    ∙ moved _ _ _ _ (c.in_ok-rename.ensures.file told) (c.in_ok-rename.ensures.gone told) c.in_ok-rename.ensures.changes.others
    ∙ ap (λ (files : Files). update bytes_eq (update bytes_eq files beside None) c.args.name.now (files beside)) (c.in_ok-write_synced.ensures.files told)
    ∙ renamed_files _ _ _ _

pub returns-clause-settled : goal.returns-clause-settled
returns-clause-settled g c told ready =
    let cut = c.in_ok-write_synced.ensures.cut told (inr (ready.free c.args.beside.now)) in
    settled _ _ _ _ _ _ (g.met.D.Panel.files_told c.args.device.now) c.requires ready cut (c.in_ok-write_synced.ensures.disk told) _ (c.in_ok-rename.ensures.ok told) _ (c.in_ok-sync_names.ensures.ok told)
