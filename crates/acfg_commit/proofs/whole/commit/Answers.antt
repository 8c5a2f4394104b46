use Rattle.std.proofs.Common.{sym, ◌∙◌}
use Rattle.acfg_device.proofs.Settling.{settled_ready}
use Rattle.acfg_commit.proofs.Committing.{committed, not_committed}
use Rattle.acfg_commit.proofs.whole.commit.Goals as goal

pub returns-in_err-write_files-clause-cut : goal.returns-in_err-write_files-clause-cut
returns-in_err-write_files-clause-cut g c told settled =
    let ready = settled_ready (g.D.Panel.account c.args.device.now).now settled in
    let account = g.D.Panel.account c.write_files.new.device in
    not_committed (g.D.Panel.account c.args.device.now) account account c.args.files.now c.args.beside.now c.args.name.now c.args.bytes.now _ _
    (g.met.D.Panel.files_told c.args.device.now) (g.met.D.Panel.said_told c.args.device.now) settled (c.in_err-write_files.ensures.cut told (λ k d low. ready.free _))

pub returns-in_err-replace-clause-cut : goal.returns-in_err-replace-clause-cut
returns-in_err-replace-clause-cut g c told settled =
    let ready = settled_ready (g.D.Panel.account c.args.device.now).now settled in
    let same = sym (g.met.D.Panel.said_told c.write_files.new.device) ∙ c.in_ok-write_files.ensures.changes.said ∙ g.met.D.Panel.said_told c.args.device.now in
    committed (g.D.Panel.account c.args.device.now) (g.D.Panel.account c.write_files.new.device) (g.D.Panel.account c.replace.new.device) c.args.files.now c.args.beside.now c.args.name.now c.args.bytes.now _ _
    (g.met.D.Panel.files_told c.args.device.now) (g.met.D.Panel.said_told c.args.device.now) settled (c.in_ok-write_files.ensures.cut told (λ k d low. ready.free _))
    _ (c.in_ok-write_files.ensures.files told) same (c.in_err-replace.ensures.cut told (c.in_ok-write_files.ensures.ready told ready))

pub returns-clause-cut : goal.returns-clause-cut
returns-clause-cut g c told settled =
    let ready = settled_ready (g.D.Panel.account c.args.device.now).now settled in
    let same = sym (g.met.D.Panel.said_told c.write_files.new.device) ∙ c.in_ok-write_files.ensures.changes.said ∙ g.met.D.Panel.said_told c.args.device.now in
    committed (g.D.Panel.account c.args.device.now) (g.D.Panel.account c.write_files.new.device) (g.D.Panel.account c.replace.new.device) c.args.files.now c.args.beside.now c.args.name.now c.args.bytes.now _ _
    (g.met.D.Panel.files_told c.args.device.now) (g.met.D.Panel.said_told c.args.device.now) settled (c.in_ok-write_files.ensures.cut told (λ k d low. ready.free _))
    _ (c.in_ok-write_files.ensures.files told) same (c.in_ok-replace.ensures.cut told (c.in_ok-write_files.ensures.ready told ready))
