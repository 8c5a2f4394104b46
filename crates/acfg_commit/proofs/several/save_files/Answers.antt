use Rattle.std.proofs.Common.{sym, ap, subst}
use Rattle.acfg_device.proofs.Carried.{carry_sync_names}
use Rattle.acfg_device.specs.Account.{Account}
use Rattle.acfg_commit.proofs.Writing.{synced_last}
use Rattle.acfg_commit.specs.Written.{AreSynced, IsNameAmong}
use Rattle.acfg_commit.proofs.several.save_files.Goals as goal

pub returns-clause-cut : goal.returns-clause-cut
returns-clause-cut g c told free = carry_sync_names (IsNameAmong c.args.files.now) _ _ _ (c.in_ok-write_files.ensures.cut told free) (c.in_ok-sync_names.ensures.ok told)

pub returns-clause-last : goal.returns-clause-last
returns-clause-last g c told =
    let done = c.in_ok-sync_names.ensures.ok told in
    synced_last c.args.files.now _ _ (g.met.D.Panel.files_told c.sync_names.new.self) (ap (λ (account : Account). account.now.pending) done)
    (subst (λ (account : Account). AreSynced c.args.files.now account.now) (sym done) (c.in_ok-write_files.ensures.synced told))
