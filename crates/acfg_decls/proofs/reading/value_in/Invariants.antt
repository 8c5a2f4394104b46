use Rattle.std.proofs.Common.{◌≡◌, drop}
use Rattle.acfg_decls.specs.Reading.{value_in}
use Rattle.acfg_decls.proofs.reading.value_in.Given as goal

abbrev pub invariant-loop-item : goal.invariant-loop-item
invariant-loop-item l = value_in l.name (drop l.item-index l.items) ≡ value_in l.name l.items
