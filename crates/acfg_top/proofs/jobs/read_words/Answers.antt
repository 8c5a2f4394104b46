use Rattle.std.proofs.Common.{subst, sym, lit<}
use Rattle.std.specs.Prelude.{IfOk, option_map}
use Rattle.acfg_base.specs.Found.{Finds}
use Rattle.acfg_daemon.proofs.Words.{last_word}
use Rattle.acfg_top.specs.JobBodies.{AreJobWords, job_of}
use Rattle.acfg_top.proofs.JobWords.{first_word, not_one}
use Rattle.acfg_top.proofs.jobs.read_words.Goals as goal

pub returns-in_default : goal.returns-in_default
returns-in_default c job are =
    let text = c.args.text.now in
    not_one text job (subst (λ all. AreJobWords all job) (last_word text (c.in_default.ensures.byte (lit< tt) (λ text found finds. finds))) are)

pub returns : goal.returns
returns c =
    let cut = c.in-Some.ensures.byte (lit< tt) (λ text found finds. finds) in
    let parts = first_word c.args.text.now c.in-Some.container.now c.in-Some.behind.now cut.0 cut.1 cut.2 in
    subst (λ all. IfOk c.read_places.result (λ found. Finds (AreJobWords all) (option_map job_of found))) (sym parts) c.read_places.ensures
