use Rattle.std.proofs.Common.{◌∙◌, ◌++◌, string_bytes, sym, ap, inr}
use Rattle.acfg_daemon.proofs.Going.{on_err}
use Rattle.acfg_daemon.proofs.rehearsal.take_line.Goals as goal

pub returns-in_err-say-clause-err : goal.returns-in_err-say-clause-err
returns-in_err-say-clause-err g c tells =
    let failed = c.in_err-say.ensures.err tells in
    on_err c.from_residual-in_err-say.result _ (failed.0, inr (c.answer.new.machine, string_bytes c.answer.new.reply, failed.1, c.in_ok-answer.ensures.told tells, sym c.as_bytes.ensures.value ∙ failed.2), failed.3 ∙ ap (λ said. said ++ failed.0) c.in_ok-answer.ensures.reads.said)
