use Rattle.std.proofs.Common.{◌≡◌, ℕ, List, drop, map}
use Rattle.acfg_memdev.proofs.Filling.{so_far, wanted}
use Rattle.acfg_memdev.specs.Kept.{entry_of}
use Rattle.acfg_memdev.specs.Slots.{names_of}
use Rattle.acfg_memdev.proofs.slots.slots_of.Given as goal

abbrev pub invariant-loop-name : goal.invariant-loop-name
invariant-loop-name l = (name : List ℕ) → wanted (map entry_of l.files) name ≡ so_far (names_of l.slots) (map entry_of (drop l.name-index l.files)) name
