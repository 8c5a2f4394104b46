use Rattle.std.proofs.Common.{◌≡◌, ◌++◌, take}
use Rattle.std.specs.List.{flat_map}
use Rattle.acfg_dump.specs.Lines.{part_text}
use Rattle.acfg_dump.proofs.values.put_line.Given as goal

abbrev pub invariant-loop-part : goal.invariant-loop-part
invariant-loop-part l = l.out.items ≡ l.initial.out.items ++ flat_map (part_text l.flag) (take l.part-index l.parts)
