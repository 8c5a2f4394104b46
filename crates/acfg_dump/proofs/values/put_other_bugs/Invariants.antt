use Rattle.std.proofs.Common.{◌≡◌, ◌∷◌, ◌++◌, take}
use Rattle.std.specs.List.{flat_map}
use Rattle.acfg_base.specs.Bytes.{comma}
use Rattle.acfg_dump.proofs.values.put_other_bugs.Given as goal

abbrev pub invariant-loop-bug : goal.invariant-loop-bug
invariant-loop-bug l = l.out.items ≡ l.initial.out.items ++ flat_map (λ bug. comma ∷ bug) (take l.bug-index l.bugs)
