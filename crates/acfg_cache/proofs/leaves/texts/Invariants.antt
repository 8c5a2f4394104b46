use Rattle.std.proofs.Common.{◌≡◌, ◌++◌, drop}
use Rattle.acfg_cache.specs.Counted.{texts}
use Rattle.acfg_cache.specs.Bodies.{leaves_read}
use Rattle.acfg_cache.proofs.leaves.texts.Given as goal

-- what is there, and what is left to add, is all
abbrev pub invariant-loop-leaf : goal.invariant-loop-leaf
invariant-loop-leaf l = l.all ++ texts l.field (leaves_read (drop l.leaf-index l.leaves)) ≡ texts l.field (leaves_read l.leaves)
