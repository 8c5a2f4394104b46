use Rattle.std.proofs.Common.{◌≡◌, drop}
use Rattle.std.specs.List.{list_all}
use Rattle.acfg_cache.specs.Reading.{is_point}
use Rattle.acfg_cache.specs.Bodies.{messages_read}
use Rattle.acfg_cache.proofs.conditions.are_points.Given as goal

-- those that are left decide it
abbrev pub invariant-loop-trace : goal.invariant-loop-trace
invariant-loop-trace l = list_all is_point (messages_read (drop l.trace-index l.traces)) ≡ list_all is_point (messages_read l.traces)
