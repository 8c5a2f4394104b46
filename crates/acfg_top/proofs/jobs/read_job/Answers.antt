use Rattle.std.proofs.Common.{subst}
use Rattle.std.specs.Prelude.{IfOk, option_map}
use Rattle.acfg_base.specs.Found.{Finds}
use Rattle.acfg_top.specs.JobBodies.{job_of}
use Rattle.acfg_top.specs.JobList.{IsJob}
use Rattle.acfg_top.proofs.JobWords.{found_job, job_text}
use Rattle.acfg_top.proofs.jobs.read_job.Goals as goal

pub returns-in-Ok : goal.returns-in-Ok
returns-in-Ok c =
    subst (λ line. IfOk c.read_words.result (λ found. Finds (IsJob line) (option_map job_of found))) c.in-Ok.ensures.cases.0
    (found_job c.in-Ok.text.now c.read_words.result c.read_words.ensures)

pub returns-in-Err : goal.returns-in-Err
returns-in-Err c job is = c.in-Err.ensures.cases.0 (job_text c.args.line.now job is)
