use Rattle.std.proofs.Common.{◌≡◌, ◌-◌}
use Rattle.std.specs.Prelude.{nat_lt}
use Rattle.acfg_views.specs.Reading.{byte_in}
use Rattle.acfg_images.specs.Words.{least}
use Rattle.acfg_images.proofs.bits.first_bad_value.Given as goal

abbrev pub invariant-loop-i : goal.invariant-loop-i
invariant-loop-i l =
    least (λ i. nat_lt 1 (byte_in l.values i)) l.i (l.values.count - l.i) ≡ least (λ i. nat_lt 1 (byte_in l.values i)) 0 l.values.count
