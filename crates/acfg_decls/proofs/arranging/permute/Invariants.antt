use Rattle.std.proofs.Common.{length, ◌≤◌, IsPermutation}
use Rattle.acfg_decls.proofs.arranging.permute.Given as goal

-- what was exchanged so far
abbrev pub invariant-loop : goal.invariant-loop
invariant-loop l = IsPermutation l.fn.flags l.flags × (l.count ≤ length l.flags) × (l.count ≤ length l.ranks)
