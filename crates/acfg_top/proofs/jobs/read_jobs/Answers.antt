use Rattle.std.proofs.Common.{[], ◌∷◌, subst, ap, ◌∙◌}
use Rattle.std.proofs.lemmas.List.{map-append}
use Rattle.acfg_daemon.specs.Lines.{lines}
use Rattle.acfg_top.specs.JobBodies.{IsGoodBehind, IsNext, job_of, jobs_of}
use Rattle.acfg_top.proofs.JobLines.{reads_more}
use Rattle.acfg_top.proofs.jobs.read_jobs.Goals as goal

pub loop-rest-preserved : goal.loop-rest-preserved
loop-rest-preserved c =
    let jobs = c.loop-rest.jobs.items in
    let line = c.split_line.result.0.now in
    let next : IsGoodBehind (jobs_of c.deref.result.now) line (job_of c.in-Some.job) = subst (IsNext (jobs_of c.deref.result.now) line) c.in-Some.is c.in_ok-job.ensures in
    reads_more (lines c.args.list.now) (jobs_of jobs) (jobs_of c.push.new.self.items) line (job_of c.in-Some.job) (lines c.loop-rest.rest.now) (lines c.split_line.result.1.now) c.loop-rest.invariant c.split_line.ensures.lines
    (subst (λ jobs. IsGoodBehind (jobs_of jobs) line (job_of c.in-Some.job)) c.deref.ensures.value next)
    (ap jobs_of c.in_ok-push-in-Some.ensures.items ∙ map-append job_of jobs (c.in-Some.job ∷ []))
