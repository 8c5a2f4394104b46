use Rattle.std.proofs.Common.{map, string_bytes, sym, ap, ◌∙◌}
use Rattle.std.proofs.lemmas.Result.{on_err_weaker}
use Rattle.acfg_top.specs.Dump.{DumpGives}
use Rattle.acfg_top.specs.Outcome.{said_for, writes_of}
use Rattle.acfg_top.proofs.Dumping.{dump_gives_unique}
use Rattle.acfg_top.proofs.Telling.{tell_comes, told_broken}
use Rattle.acfg_top.proofs.dump.dump_caches.Goals as goal

pub returns-clause-told : goal.returns-clause-told
returns-clause-told g c = λ tells.
    let read = c.in_ok-told.ensures.reads in
    let mine = c.in_ok-told.ensures.told tells in
    tell_comes g.P.Panel read.files read.said read.account (DumpGives c.args.asked.format.now c.args.asked.filter.now (map string_bytes c.args.asked.files.now) (g.P.Panel.files c.args.panel.now)) mine.0 mine.1
    c.in_ok-told.told mine.2 c.tell.result c.tell.ensures.says c.tell.ensures.ending (c.tell.ensures.ok tells)

pub returns-clause-broken : goal.returns-clause-broken
returns-clause-broken g c = λ tells.
    let read = c.in_ok-told.ensures.reads in
    let mine = c.in_ok-told.ensures.told tells in
    on_err_weaker c.tell.result (λ part outcome given.
    let same = dump_gives_unique c.args.asked.format.now c.args.asked.filter.now (map string_bytes c.args.asked.files.now) (g.P.Panel.files c.args.panel.now) mine.0 outcome mine.1 given in
    told_broken g.P.Panel read.files read.said read.account outcome c.in_ok-told.told.text.items (mine.2.text ∙ ap said_for same) (ap writes_of (sym same) ∙ mine.2.nothing)
    c.tell.ensures.says part) (c.tell.ensures.err tells)
