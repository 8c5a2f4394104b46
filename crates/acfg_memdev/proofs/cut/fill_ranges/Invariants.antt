use Rattle.std.proofs.Common.{◌≡◌, ◌++◌, drop}
use Rattle.acfg_memdev.specs.Cut.{filled_from}
use Rattle.acfg_memdev.proofs.cut.fill_ranges.Given as goal

abbrev pub invariant-loop-place : goal.invariant-loop-place
invariant-loop-place l = l.left.items ++ filled_from l.ranges l.fill l.place (drop l.place l.bytes) ≡ filled_from l.ranges l.fill 0 l.bytes
