use Rattle.std.proofs.Common.{◌++◌, subst, refl, inl, codes}
use Rattle.std.specs.Prelude.{IfOk}
use Rattle.std.specs.Fmt.{decimal}
use Rattle.acfg_daemon.specs.Lines.{lines}
use Rattle.acfg_top.specs.Bodies.{IsProduct}
use Rattle.acfg_top.specs.CreateAll.{IsBadList, JobsGive}
use Rattle.acfg_top.specs.JobBodies.{IsListed, jobs_of}
use Rattle.acfg_top.specs.JobList.{AreJobs}
use Rattle.acfg_top.specs.Outcome.{Refused}
use Rattle.acfg_top.proofs.JobStores.{made_next}
use Rattle.acfg_top.proofs.create_all.judged.Goals as goal

pub returns-in-Jobs-clause-told : goal.returns-in-Jobs-clause-told
returns-in-Jobs-clause-told g c = λ tells.
    let files = g.P.Panel.files c.args.panel.now in
    let bytes = c.args.bytes.now in
    let are = subst (IsListed (lines bytes)) c.in-Jobs.is c.in_ok-jobs.ensures in
    made_next (IsBadList c.args.list.now bytes) (AreJobs (lines bytes)) (JobsGive files) (jobs_of c.in-Jobs.jobs.items) are c.worked.result
    (subst (λ jobs. IfOk c.worked.result (IsProduct (JobsGive files (jobs_of jobs)))) c.deref.ensures.value (c.worked.ensures.told tells))

pub returns-in_ok-refused-in-BadLine-clause-told : goal.returns-in_ok-refused-in-BadLine-clause-told
returns-in_ok-refused-in-BadLine-clause-told g c = λ tells.
    let list = c.args.list.now in
    let number = c.in-BadLine.number in
    let what = codes "bad-line " ++ decimal number in
    let first = subst (IsListed (lines c.args.bytes.now)) c.in-BadLine.is c.in_ok-jobs.ensures in
    (Refused list what, inl (list, what, record { number = number; first = first; is_file = refl; is_bad = refl }, refl), c.only_told.ensures.of (Refused list what) c.in_ok-refused-in-BadLine.ensures)
