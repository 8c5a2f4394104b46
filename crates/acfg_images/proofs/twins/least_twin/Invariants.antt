use Rattle.std.proofs.Common.{◌≤◌, ◌⊎◌, length}
use Rattle.acfg_images.specs.Twins.{HasTwin, IsLeast}
use Rattle.acfg_images.proofs.twins.least_twin.Given as goal

abbrev pub invariant-loop-k : goal.invariant-loop-k
invariant-loop-k l = IsLeast (HasTwin l.rows l.k) l.least × ((l.k ≤ length l.rows) ⊎ (l.k ≤ 1))
