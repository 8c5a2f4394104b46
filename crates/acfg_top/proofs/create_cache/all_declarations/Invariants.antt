use Rattle.std.proofs.Common.{drop, filter}
use Rattle.acfg_top.specs.Bodies.{inputs_of}
use Rattle.acfg_top.specs.CreateCache.{IsBadDeclarations, IsDeclarations, has_declarations}
use Rattle.acfg_top.proofs.Reading.{Looks}
use Rattle.acfg_top.proofs.create_cache.all_declarations.Given as goal

abbrev pub invariant-loop-input : goal.invariant-loop-input
invariant-loop-input l = Looks IsDeclarations IsBadDeclarations (filter has_declarations (inputs_of l.inputs)) l.all.items (filter has_declarations (inputs_of (drop l.input-index l.inputs)))
