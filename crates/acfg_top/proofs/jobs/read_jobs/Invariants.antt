use Rattle.std.proofs.Common.{length}
use Rattle.acfg_daemon.specs.Lines.{lines}
use Rattle.acfg_top.specs.JobBodies.{jobs_of}
use Rattle.acfg_top.proofs.JobLines.{Reads}
use Rattle.acfg_top.proofs.jobs.read_jobs.Given as goal

-- the lines so far are the jobs so far
abbrev pub invariant-loop-rest : goal.invariant-loop-rest
invariant-loop-rest l = Reads (lines l.list) (jobs_of l.jobs.items) (lines l.rest)

abbrev pub decreases-loop-rest : goal.decreases-loop-rest
decreases-loop-rest l = length l.rest
