use Rattle.std.proofs.Common.{◌≡◌, [], if◌then◌else◌, take}
use Rattle.std.specs.List.{flat_map}
use Rattle.acfg_dump.specs.Filter.{lets_through}
use Rattle.acfg_dump.specs.Lines.{line}
use Rattle.acfg_dump.proofs.dumping.dump.Given as goal

abbrev pub invariant-loop-flag : goal.invariant-loop-flag
invariant-loop-flag l = l.text.items ≡ flat_map (λ flag. if lets_through l.filter flag then line l.template flag else []) (take l.flag-index l.flag-items)
