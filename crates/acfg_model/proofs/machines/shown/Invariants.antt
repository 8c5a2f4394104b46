use Rattle.std.proofs.Common.{◌≡◌, map, take}
use Rattle.acfg_model.proofs.Shown.{shown_pair, named_pair}
use Rattle.acfg_model.proofs.machines.shown.Given as goal

abbrev pub invariant-loop-named : goal.invariant-loop-named
invariant-loop-named l = map shown_pair l.states.items ≡ map named_pair (take l.named-index l.containers)
