use Rattle.std.proofs.Common.{◌≡◌, map, take}
use Rattle.acfg_images.specs.Building.{source_of, value_byte}
use Rattle.acfg_images.proofs.building.flags.list_values.Given as goal

abbrev pub invariant-loop-row : goal.invariant-loop-row
invariant-loop-row l = l.bytes.items ≡ map value_byte (map source_of (take l.row-index l.rows))
