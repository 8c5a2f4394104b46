use Rattle.std.proofs.Common.{◌≡◌, ◌-◌, false, not, get_or, length}
use Rattle.acfg_images.specs.Words.{least}
use Rattle.acfg_images.proofs.agree.first_unmarked.Given as goal

abbrev pub invariant-loop-k : goal.invariant-loop-k
invariant-loop-k l =
    least (λ k. not (get_or l.marks k false)) l.k (length l.marks - l.k) ≡ least (λ k. not (get_or l.marks k false)) 0 (length l.marks)
