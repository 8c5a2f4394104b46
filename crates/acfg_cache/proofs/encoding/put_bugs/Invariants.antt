use Rattle.std.proofs.Common.{◌≡◌, ◌++◌, drop, take}
use Rattle.std.specs.Prelude.{All, IsUtf8}
use Rattle.std.specs.List.{flat_map}
use Rattle.acfg_wire.specs.Fields.{bytes_field}
use Rattle.acfg_cache.proofs.encoding.put_bugs.Given as goal

-- what is written, and what is left to write, is all
abbrev pub invariant-loop-bug : goal.invariant-loop-bug
invariant-loop-bug l = record {
  written : l.out.items ++ flat_map (λ bug. bytes_field 5 bug) (drop l.bug-index l.bugs) ≡ l.fn.out.items ++ flat_map (λ bug. bytes_field 5 bug) l.bugs;
  texts : All IsUtf8 (take l.bug-index l.bugs);
}
