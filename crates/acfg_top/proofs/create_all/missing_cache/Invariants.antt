use Rattle.std.proofs.Common.{◌≡◌, drop}
use Rattle.std.specs.Prelude.{IsTrue}
use Rattle.std.specs.List.{flat_map}
use Rattle.acfg_device.specs.Only.{OnlyReads}
use Rattle.acfg_top.specs.Bodies.{missing_of}
use Rattle.acfg_top.specs.Inputs.{inputs_in}
use Rattle.acfg_top.specs.JobBodies.{jobs_of}
use Rattle.acfg_top.proofs.create_all.missing_cache.Given as goal

-- the first cache that is missed is one of the jobs that are left
abbrev pub invariant-loop-job : goal.invariant-loop-job
invariant-loop-job g l = record {
  found : IsTrue g.P.Panel.tells → missing_of (inputs_in (g.P.Panel.files l.fn.panel) (flat_map (λ job. job.caches) (jobs_of (drop l.job-index l.jobs)))) ≡ missing_of (inputs_in (g.P.Panel.files l.fn.panel) (flat_map (λ job. job.caches) (jobs_of l.jobs)));
  reads : OnlyReads g.P.Panel l.fn.panel l.panel ⊥;
}
