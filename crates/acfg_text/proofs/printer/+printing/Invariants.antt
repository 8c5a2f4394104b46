use Rattle.std.proofs.Common.{◌≡◌, ◌++◌, ◌∷◌, [], take, map}
use Rattle.std.specs.Prelude.{codes}
use Rattle.std.specs.List.{flat_map}
use Rattle.acfg_text.specs.Printed.{held, shown, printed_item}
use Rattle.acfg_text.proofs.printer.+printing.Given as goal

abbrev pub invariant-print_fields-loop-item : goal.invariant-print_fields-loop-item
invariant-print_fields-loop-item l = l.out.items ≡ l.initial.out.items ++ flat_map (λ f. f ++ 32 ∷ []) (map printed_item (take l.item-index l.items))

abbrev pub invariant-print_held-loop-value : goal.invariant-print_held-loop-value
invariant-print_held-loop-value l = l.out.items ≡ l.initial.out.items ++ flat_map held (map shown (take l.value-index l.values))

abbrev pub invariant-print_values-loop-value : goal.invariant-print_values-loop-value
invariant-print_values-loop-value l = l.out.items ≡ l.initial.out.items ++ flat_map (λ p. codes ", " ++ p) (map (λ v. v.text) (map shown (take l.value-index l.others)))
