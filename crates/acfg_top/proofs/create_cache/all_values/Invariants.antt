use Rattle.std.proofs.Common.{drop, filter}
use Rattle.acfg_top.specs.Bodies.{inputs_of}
use Rattle.acfg_top.specs.CreateCache.{IsBadValues, IsValues, has_values}
use Rattle.acfg_top.proofs.Reading.{Looks}
use Rattle.acfg_top.proofs.create_cache.all_values.Given as goal

abbrev pub invariant-loop-input : goal.invariant-loop-input
invariant-loop-input l = Looks IsValues IsBadValues (filter has_values (inputs_of l.inputs)) l.all.items (filter has_values (inputs_of (drop l.input-index l.inputs)))
