use Rattle.std.proofs.Common.{◌≡◌, ℕ, List, map}
use Rattle.std.specs.Option.{option_map}
use Rattle.acfg_memdev.proofs.Leaving.{listed_so_far}
use Rattle.acfg_memdev.specs.Cut.{filled}
use Rattle.acfg_memdev.specs.Kept.{entry_of}
use Rattle.acfg_memdev.specs.Slots.{names_of}
use Rattle.acfg_memdev.proofs.cut.files_left.Given as goal

abbrev pub invariant-loop-name : goal.invariant-loop-name
invariant-loop-name l = (name : List ℕ) → option_map (filled l.fill) (names_of l.slots name) ≡ listed_so_far (λ other. option_map (filled l.fill) (names_of l.slots other)) (map entry_of l.left.items) l.name-iterator name
