use Rattle.std.proofs.Common.{drop}
use Rattle.acfg_top.specs.Bodies.{IsNotTaken, IsTaken, inputs_of, text_in}
use Rattle.acfg_top.proofs.Reading.{Looks}
use Rattle.acfg_top.proofs.caches.read_caches.Given as goal

abbrev pub invariant-loop-input : goal.invariant-loop-input
invariant-loop-input l = Looks (IsTaken (text_in l.container)) (IsNotTaken (text_in l.container)) (inputs_of l.inputs) l.lists.items (inputs_of (drop l.input-index l.inputs))
