use Rattle.std.proofs.Common.{◌+◌, ⊎_elim, subst, drop, rules}
use Rattle.acfg_top.specs.Bodies.{IsProduct}
use Rattle.acfg_top.specs.CreateAll.{IsStorageFile, JobGives}
use Rattle.acfg_top.specs.JobBodies.{job_of, jobs_of}
use Rattle.acfg_top.proofs.JobOutcome.{undamaged}
use Rattle.acfg_top.proofs.JobStores.{Stores, among_both, handed, job_at, no_job, stores_all, stores_more, stores_refused}
use Rattle.acfg_top.proofs.create_all.stored.Goals as goal

pub returns-in-Refused-clause-told : goal.returns-in-Refused-clause-told
returns-in-Refused-clause-told g c = λ tells.
    let files = g.P.Panel.files c.args.panel.now in
    let job = c.job-item.result in
    let jobs = c.args.jobs.now in
    let i = c.loop-job.job-index in
    let next = c.in_ok-next.next in
    let product : IsProduct (JobGives files (job_of job)) next = handed files _ job _ _ _ next c.loop-job.invariant.reads.files c.as_str-container.ensures.text c.as_str-dir.ensures.value c.deref.ensures.value (c.in_ok-next.ensures.told tells) in
    stores_refused files (jobs_of jobs) (jobs_of (drop (i + 1) jobs)) (job_of job) c.loop-job.output next
    (subst (λ left. Stores files (jobs_of jobs) left c.loop-job.output) (job_at jobs i job c.job-item.is c.loop-job-test.true) (c.loop-job.invariant.stores tells)) product
    (⊎_elim (λ refused. refused) (λ damaged. absurd (undamaged files (job_of job) next product damaged)) c.in-Refused.is)

pub loop-job-preserved : goal.loop-job-preserved
loop-job-preserved g c =
    let files = g.P.Panel.files c.args.panel.now in
    let job = c.job-item.result in
    let jobs = c.args.jobs.now in
    let i = c.loop-job.job-index in
    let old = c.loop-job.output in
    let new = c.add.new.output in
    let next = c.in_ok-next.next in
    record {
      stores = λ tells.
          let product : IsProduct (JobGives files (job_of job)) next = handed files _ job _ _ _ next c.loop-job.invariant.reads.files c.as_str-container.ensures.text c.as_str-dir.ensures.value c.deref.ensures.value (c.in_ok-next.ensures.told tells) in
          stores_more files (jobs_of jobs) (jobs_of (drop (i + 1) jobs)) (job_of job) old new next
          (subst (λ left. Stores files (jobs_of jobs) left old) (job_at jobs i job c.job-item.is c.loop-job-test.true) (c.loop-job.invariant.stores tells)) product c.in-Done.is
          c.in_ok-add-in-Done.ensures.ending c.in_ok-add-in-Done.ensures.text c.in_ok-add-in-Done.ensures.files;
      names = among_both IsStorageFile old new next c.in_ok-add-in-Done.ensures.files c.loop-job.invariant.names (λ other stands. (c.as_str-dir.result.now, c.in_ok-next.ensures.names other stands));
      reads = search rules;
    }

pub returns-clause-told : goal.returns-clause-told
returns-clause-told g c = λ tells.
    let files = g.P.Panel.files c.args.panel.now in
    let jobs = c.args.jobs.now in
    stores_all files (jobs_of jobs) c.loop-job.output
    (subst (λ left. Stores files (jobs_of jobs) left c.loop-job.output) (no_job jobs c.loop-job.job-index c.loop-job-test.false) (c.loop-job.invariant.stores tells))

pub returns-in-Refused-clause-names : goal.returns-in-Refused-clause-names
returns-in-Refused-clause-names g c = λ other stands. (c.as_str-dir.result.now, c.in_ok-next.ensures.names other stands)
