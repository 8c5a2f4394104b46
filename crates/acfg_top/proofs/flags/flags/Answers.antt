use Rattle.std.proofs.Common.{sym, ap, ◌∙◌}
use Rattle.acfg_top.specs.Outcome.{said_for, writes_of}
use Rattle.acfg_top.proofs.OneOutcome.{flags_gives_unique}
use Rattle.std.proofs.lemmas.Result.{on_err_weaker}
use Rattle.acfg_top.proofs.Telling.{told_broken}
use Rattle.acfg_top.proofs.flags.flags.Goals as goal

pub returns-clause-broken : goal.returns-clause-broken
returns-clause-broken g c = λ tells.
    let read = c.in_ok-told.ensures.reads in
    let mine = c.in_ok-told.ensures.told tells in
    on_err_weaker c.tell.result (λ part outcome given.
    let same = flags_gives_unique _ _ mine.0 outcome mine.1 given in
    told_broken g.P.Panel read.files read.said read.account outcome c.in_ok-told.told.text.items (mine.2.text ∙ ap said_for same) (ap writes_of (sym same) ∙ mine.2.nothing) c.tell.ensures.says part) (c.tell.ensures.err tells)
