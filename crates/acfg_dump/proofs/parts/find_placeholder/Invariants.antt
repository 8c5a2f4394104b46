use Rattle.std.proofs.Common.{◌≡◌, All, take}
use Rattle.acfg_dump.specs.Parts.{placeholder_name}
use Rattle.acfg_dump.proofs.parts.find_placeholder.Given as goal

abbrev pub invariant-loop-placeholder : goal.invariant-loop-placeholder
invariant-loop-placeholder l = All (λ placeholder. l.name ≡ placeholder_name placeholder → ⊥) (take l.placeholder-index l.placeholder-items)
