use Rattle.std.proofs.Common.{◌≡◌, ◌∙◌, ap, ℕ, List, map, string_bytes, rules}
use Rattle.std.specs.Borrow.{Bor}
use Rattle.std.specs.List.{flat_map}
use Rattle.std.specs.Prelude.{None, Some, option_map}
use Rattle.acfg_top.specs.Bodies.{missing_of}
use Rattle.acfg_top.specs.Inputs.{inputs_in}
use Rattle.acfg_top.specs.JobBodies.{jobs_of}
use Rattle.acfg_top.proofs.JobStores.{found_at, job_has, job_misses}
use Rattle.acfg_top.proofs.create_all.missing_cache.Goals as goal

pub returns-in-Some-clause-found : goal.returns-in-Some-clause-found
returns-in-Some-clause-found g c = λ tells.
    let files = g.P.Panel.files c.args.panel.now in
    let job = c.job-item.result in
    let jobs = c.args.jobs.now in
    let misses : missing_of (inputs_in files (map string_bytes job.caches.items)) ≡ Some c.in-Some.name.now =
    found_at files _ c.deref.result.now job.caches.items c.in_ok-name.field-0 c.loop-job.invariant.reads.files c.deref.ensures.value (c.in_ok-name.ensures.found tells) ∙ ap (option_map (λ (name : Bor (List ℕ)). name.now)) c.in-Some.is in
    job_misses files jobs c.loop-job.job-index job c.in-Some.name.now (missing_of (inputs_in files (flat_map (λ job. job.caches) (jobs_of jobs)))) c.job-item.is c.loop-job-test.true misses (c.loop-job.invariant.found tells)

pub loop-job-preserved : goal.loop-job-preserved
loop-job-preserved g c =
    let files = g.P.Panel.files c.args.panel.now in
    let job = c.job-item.result in
    let jobs = c.args.jobs.now in
    record {
      found = λ tells.
          let has : missing_of (inputs_in files (map string_bytes job.caches.items)) ≡ None =
          found_at files _ c.deref.result.now job.caches.items c.in_ok-name.field-0 c.loop-job.invariant.reads.files c.deref.ensures.value (c.in_ok-name.ensures.found tells) ∙ ap (option_map (λ (name : Bor (List ℕ)). name.now)) c.in-None.is in
          job_has files jobs c.loop-job.job-index job (missing_of (inputs_in files (flat_map (λ job. job.caches) (jobs_of jobs)))) c.job-item.is c.loop-job-test.true has (c.loop-job.invariant.found tells);
      reads = search rules;
    }
