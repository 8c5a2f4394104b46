use Rattle.std.proofs.Common.{◌≡◌, ◌∷◌, ◌++◌, take}
use Rattle.std.specs.List.{flat_map}
use Rattle.acfg_base.specs.Bytes.{comma}
use Rattle.acfg_dump.specs.Lines.{point_text}
use Rattle.acfg_dump.proofs.values.put_other_points.Given as goal

abbrev pub invariant-loop-point : goal.invariant-loop-point
invariant-loop-point l = l.out.items ≡ l.initial.out.items ++ flat_map (λ point. comma ∷ point_text point) (take l.point-index l.points)
