use Rattle.std.proofs.Common.{◌≡◌, map, subst, sym, ◌∙◌, inl, inr, arith, false, true}
use Rattle.std.specs.Prelude.{Contains, option_map}
use Rattle.std.proofs.lemmas.List.{length-map}
use Rattle.acfg_base.specs.Found.{Finds}
use Rattle.acfg_top.specs.JobBodies.{job_of, jobs_of}
use Rattle.acfg_top.specs.JobList.{IsJob}
use Rattle.acfg_top.proofs.JobWords.{dir_stands, stands_at}
use Rattle.acfg_top.proofs.jobs.next_job.Goals as goal

pub returns-then-stands : goal.returns-then-stands
returns-then-stands c =
    let is : IsJob c.args.line.now (job_of c.in-Some.job) = subst (λ found. Finds (IsJob c.args.line.now) (option_map job_of found)) c.in-Some.is c.in_ok-job.ensures in
    let twice = dir_stands c.args.jobs.now c.as_str.result.now (sym c.stands.ensures ∙ c.if-stands.true) in
    inr (inl (job_of c.in-Some.job, is, subst (Contains (map (λ earlier. earlier.dir) (jobs_of c.args.jobs.now))) c.as_str.ensures.value twice))

pub returns : goal.returns
returns c =
    let is : IsJob c.args.line.now (job_of c.in-Some.job) = subst (λ found. Finds (IsJob c.args.line.now) (option_map job_of found)) c.in-Some.is c.in_ok-job.ensures in
    record {
      is = is;
      fresh = λ twice.
          let stood = (stands_at c.args.jobs.now c.as_str.result.now (subst (Contains (map (λ earlier. earlier.dir) (jobs_of c.args.jobs.now))) (sym c.as_str.ensures.value) twice)) in
          let no : false ≡ true = sym c.if-stands.false ∙ c.stands.ensures ∙ stood in
          cc;
      room = let long = length-map c.args.jobs.now job_of in omega (arith, long, c.if-jobs-ge-MOST_JOBS.false);
    }
