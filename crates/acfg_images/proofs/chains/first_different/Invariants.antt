use Rattle.std.proofs.Common.{◌≡◌, ◌-◌, eqb, not, get_or, length}
use Rattle.acfg_images.specs.Words.{least}
use Rattle.acfg_images.proofs.chains.first_different.Given as goal

abbrev pub invariant-loop-b : goal.invariant-loop-b
invariant-loop-b l =
    least (λ b. not (eqb (get_or l.buckets b 0) (get_or l.firsts b 0))) l.b (length l.buckets - l.b)
    ≡ least (λ b. not (eqb (get_or l.buckets b 0) (get_or l.firsts b 0))) 0 (length l.buckets)
