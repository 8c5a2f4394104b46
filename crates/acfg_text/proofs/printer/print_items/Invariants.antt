use Rattle.std.proofs.Common.{◌≡◌, ◌++◌, ◌∷◌, take, map}
use Rattle.std.specs.List.{flat_map}
use Rattle.acfg_text.specs.Printed.{printed_item}
use Rattle.acfg_text.proofs.printer.print_items.Given as goal

abbrev pub invariant-loop-item : goal.invariant-loop-item
invariant-loop-item l = l.out.items ≡ l.initial.out.items ++ flat_map (λ p. 32 ∷ p) (map printed_item (take l.item-index l.others))
