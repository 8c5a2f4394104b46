use Rattle.std.proofs.Common.{◌≡◌, ◌≤◌, ◌++◌, length, map, take, drop, vec_len}
use Rattle.acfg_model.specs.declared.machines.NamedContainer.{NamedContainer}
use Rattle.acfg_model.specs.Views.{boot_of}
use Rattle.acfg_model.specs.Step.{boot_map}
use Rattle.acfg_model.specs.Machines.{booted_named}
use Rattle.acfg_model.proofs.machines.set_boot_copies.Given as goal

-- the last containers have their copies, and those of the first ones are left
abbrev pub invariant-loop-copy : goal.invariant-loop-copy
invariant-loop-copy l = record {
  within : vec_len l.copies ≤ length l.initial.containers.items;
  done : l.containers.items ≡ take (vec_len l.copies) l.initial.containers.items ++ map booted_named (drop (vec_len l.copies) l.initial.containers.items);
  left : map boot_of l.copies.items ≡ map (λ (n : NamedContainer). boot_map n.container) (take (vec_len l.copies) l.initial.containers.items);
}

abbrev pub decreases-loop-copy : goal.decreases-loop-copy
decreases-loop-copy l = vec_len l.copies
