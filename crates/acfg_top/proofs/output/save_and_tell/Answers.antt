use Rattle.std.proofs.Common.{ap, ◌∙◌, refl}
use Rattle.acfg_commit.specs.Written.{IsNameAmong, written}
use Rattle.acfg_top.proofs.Putting.{changes_same, changes_says, changes_writes, put_breaks, put_ends, save_breaks}
use Rattle.acfg_top.proofs.output.save_and_tell.Goals as goal

pub returns-in_err-save_files-clause-broken : goal.returns-in_err-save_files-clause-broken
returns-in_err-save_files-clause-broken g c = λ tells.
    save_breaks g.D.Panel c.args.output.now c.requires c.from_residual.result
    (changes_same c.as_slice.result.now c.args.output.now.files.items c.as_slice.ensures.value c.in_err-save_files.ensures.changes)

pub returns-in_err-save_files-clause-writes : goal.returns-in_err-save_files-clause-writes
returns-in_err-save_files-clause-writes g c =
    changes_writes g.D.Panel (IsNameAmong c.args.output.now.files.items) (λ failed. refl)
    (changes_same c.as_slice.result.now c.args.output.now.files.items c.as_slice.ensures.value c.in_err-save_files.ensures.changes)

pub returns-clause-told : goal.returns-clause-told
returns-clause-told g c = λ tells.
    let saved = c.in_ok-save_files.ensures in
    put_ends g.D.Panel c.args.output.now c.requires (saved.files tells ∙ ap (λ files. written files (g.D.Panel.files c.args.device.now)) c.as_slice.ensures.value) saved.changes.said c.tell.ensures.says
    c.tell.result (saved.settled tells) c.tell.ensures.ending (c.tell.ensures.ok tells)

pub returns-clause-broken : goal.returns-clause-broken
returns-clause-broken g c = λ tells.
    let saved = c.in_ok-save_files.ensures in
    put_breaks g.D.Panel c.args.output.now c.requires (saved.files tells ∙ ap (λ files. written files (g.D.Panel.files c.args.device.now)) c.as_slice.ensures.value) saved.changes.said c.tell.ensures.says
    c.tell.result (saved.settled tells) (c.tell.ensures.err tells)

pub returns-clause-writes : goal.returns-clause-writes
returns-clause-writes g c =
    changes_says g.D.Panel (IsNameAmong c.args.output.now.files.items)
    (changes_same c.as_slice.result.now c.args.output.now.files.items c.as_slice.ensures.value c.in_ok-save_files.ensures.changes)
    c.tell.ensures.says
