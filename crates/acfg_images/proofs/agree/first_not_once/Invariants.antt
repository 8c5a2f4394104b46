use Rattle.std.proofs.Common.{◌≡◌, ◌-◌, eqb, not, get_or, length}
use Rattle.acfg_images.specs.Words.{least}
use Rattle.acfg_images.proofs.agree.first_not_once.Given as goal

abbrev pub invariant-loop-k : goal.invariant-loop-k
invariant-loop-k l =
    least (λ k. not (eqb (get_or l.counts k 0) 1)) l.k (length l.counts - l.k) ≡ least (λ k. not (eqb (get_or l.counts k 0) 1)) 0 (length l.counts)
