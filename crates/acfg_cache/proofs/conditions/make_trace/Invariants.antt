use Rattle.std.proofs.Common.{◌≡◌, ◌++◌, drop, map}
use Rattle.acfg_cache.specs.Reading.{point}
use Rattle.acfg_cache.specs.Bodies.{messages_read}
use Rattle.acfg_cache.proofs.conditions.make_trace.Given as goal

-- what is there, and what is left to make, is all
abbrev pub invariant-loop-trace : goal.invariant-loop-trace
invariant-loop-trace l = l.points ++ map point (messages_read (drop l.trace-index l.traces)) ≡ map point (messages_read l.traces)
