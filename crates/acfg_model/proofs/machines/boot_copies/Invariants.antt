use Rattle.std.proofs.Common.{◌≡◌, map, take}
use Rattle.acfg_model.specs.declared.machines.NamedContainer.{NamedContainer}
use Rattle.acfg_model.specs.Views.{boot_of}
use Rattle.acfg_model.specs.Step.{boot_map}
use Rattle.acfg_model.proofs.machines.boot_copies.Given as goal

abbrev pub invariant-loop-named : goal.invariant-loop-named
invariant-loop-named l = map boot_of l.copies.items ≡ map (λ (n : NamedContainer). boot_map n.container) (take l.named-index l.containers)
