use Rattle.std.proofs.Common.{◌≡◌, ◌++◌, drop, take}
use Rattle.std.specs.List.{flat_map}
use Rattle.acfg_wire.specs.Fields.{bytes_field}
use Rattle.acfg_cache.specs.Texts.{HaveSources}
use Rattle.acfg_cache.specs.Writing.{point_bytes}
use Rattle.acfg_cache.proofs.encoding.put_trace.Given as goal

-- what is written, and what is left to write, is all
abbrev pub invariant-loop-point : goal.invariant-loop-point
invariant-loop-point l = record {
  written :
      l.out.items ++ flat_map (λ point. bytes_field 8 (point_bytes point)) (drop l.point-index l.trace)
      ≡ l.fn.out.items ++ flat_map (λ point. bytes_field 8 (point_bytes point)) l.trace;
  texts : HaveSources (take l.point-index l.trace);
}
