use Rattle.std.proofs.Common.{refl, sym, ap, ◌∙◌}
use Rattle.std.proofs.lemmas.Result.{on_err_weaker}
use Rattle.acfg_top.specs.Outcome.{said_for, writes_of}
use Rattle.acfg_top.specs.Query.{QueryGives, judged, set_in}
use Rattle.acfg_top.proofs.Telling.{tell_comes, told_broken}
use Rattle.acfg_top.proofs.query.query.Goals as goal

pub returns-clause-told : goal.returns-clause-told
returns-clause-told g c = λ tells.
    let read = c.in_ok-told.ensures.reads in
    let dir = c.args.dir.now in
    let name = c.args.asked.package.now in
    let flag = c.args.asked.flag.now in
    let files = g.P.Panel.files c.args.panel.now in
    tell_comes g.P.Panel read.files read.said read.account (QueryGives dir name flag files) (judged dir name flag (set_in dir files)) refl
    c.in_ok-told.told (c.in_ok-told.ensures.told tells) c.tell.result c.tell.ensures.says c.tell.ensures.ending (c.tell.ensures.ok tells)

pub returns-clause-broken : goal.returns-clause-broken
returns-clause-broken g c = λ tells.
    let read = c.in_ok-told.ensures.reads in
    let mine = c.in_ok-told.ensures.told tells in
    on_err_weaker c.tell.result (λ part outcome given.
    told_broken g.P.Panel read.files read.said read.account outcome c.in_ok-told.told.text.items (mine.text ∙ ap said_for (sym given)) (ap writes_of given ∙ mine.nothing) c.tell.ensures.says part) (c.tell.ensures.err tells)
