use Rattle.std.proofs.Common.{drop}
use Rattle.std.specs.Prelude.{IsTrue}
use Rattle.acfg_device.specs.Only.{OnlyReads}
use Rattle.acfg_top.specs.Bodies.{AreAmong}
use Rattle.acfg_top.specs.CreateAll.{IsStorageFile}
use Rattle.acfg_top.specs.JobBodies.{jobs_of}
use Rattle.acfg_top.proofs.JobStores.{Stores}
use Rattle.acfg_top.proofs.create_all.stored.Given as goal

-- what is stored so far is that of the jobs so far
abbrev pub invariant-loop-job : goal.invariant-loop-job
invariant-loop-job g l = record {
  stores : IsTrue g.P.Panel.tells → Stores (g.P.Panel.files l.fn.panel) (jobs_of l.jobs) (jobs_of (drop l.job-index l.jobs)) l.output;
  names : AreAmong IsStorageFile l.output;
  reads : OnlyReads g.P.Panel l.fn.panel l.panel ⊥;
}
