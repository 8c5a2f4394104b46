use Rattle.std.proofs.Common.{◌≡◌, ℕ, List, ◌++◌, length}
use Rattle.acfg_sip.specs.Hasher.{TakesIn}
use Rattle.acfg_sip.proofs.hasher.Hasher.write.Given as goal

-- the bytes so far are taken in
abbrev pub invariant-loop-group : goal.invariant-loop-group
invariant-loop-group g l = (taken : List ℕ) × (taken ++ l.rest ≡ l.bytes) × TakesIn {c = g.row.C} {d = g.row.D} l.fn.self l.self taken

abbrev pub decreases-loop-group : goal.decreases-loop-group
decreases-loop-group g l = length l.rest
