use Rattle.std.proofs.Common.{◌∙◌, ap}
use Rattle.std.proofs.lemmas.Result.{err_from_is_err_and}
use Rattle.std.specs.Prelude.{Err}
use Rattle.acfg_commit.specs.Written.{IsNameAmong}
use Rattle.acfg_top.specs.CreateAll.{CreateAllGives, IsStorageFile}
use Rattle.acfg_top.proofs.JobOutcome.{create_all_unique}
use Rattle.acfg_top.proofs.Looking.{failed_too, look_breaks}
use Rattle.acfg_top.proofs.Putting.{looks_writes, put_broken, put_comes, reads_writes, writes_more}
use Rattle.acfg_top.proofs.create_all.create_all.Goals as goal

pub returns-clause-told : goal.returns-clause-told
returns-clause-told g c = λ tells.
    put_comes g.D.Panel c.put_out.new.device c.in_ok-output.ensures.reads (CreateAllGives c.args.list.now (g.D.Panel.files c.args.device.now))
    c.in_ok-output.output (c.in_ok-output.ensures.told tells) c.put_out.result (c.put_out.ensures.told tells)

pub returns-clause-broken : goal.returns-clause-broken
returns-clause-broken g c = λ tells.
    let list = c.args.list.now in
    let files = g.D.Panel.files c.args.device.now in
    put_broken g.D.Panel c.put_out.new.device c.in_ok-output.ensures.reads (CreateAllGives list files) c.in_ok-output.output (c.in_ok-output.ensures.told tells) (create_all_unique list files)
    c.put_out.result (c.put_out.ensures.broken tells)

pub returns-clause-writes : goal.returns-clause-writes
returns-clause-writes g c =
    reads_writes g.D.Panel IsStorageFile c.in_ok-output.ensures.reads
    (writes_more g.D.Panel (IsNameAmong c.in_ok-output.output.files.items) c.in_ok-output.ensures.names c.put_out.ensures.writes)

pub returns-in_err-output-clause-broken : goal.returns-in_err-output-clause-broken
returns-in_err-output-clause-broken g c = λ tells.
    look_breaks g.D.Panel c.in_err-output.ensures.reads (CreateAllGives c.args.list.now (g.D.Panel.files c.args.device.now)) c.from_residual.result

pub returns-in_err-output-clause-writes : goal.returns-in_err-output-clause-writes
returns-in_err-output-clause-writes g c =
    let p = err_from_is_err_and c.from_residual.result c.from_residual.ensures.1 in
    looks_writes g.D.Panel IsStorageFile (failed_too c.in_err-output.field-0.0 c.from_residual.result (p.1 ∙ ap Err p.2)) c.in_err-output.ensures.reads
