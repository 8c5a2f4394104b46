use Rattle.std.proofs.Common.{◌≡◌, ◌-◌, not}
use Rattle.acfg_views.specs.Reading.{byte_in}
use Rattle.acfg_images.specs.Words.{least}
use Rattle.acfg_images.specs.Faults.{is_info}
use Rattle.acfg_images.proofs.bits.first_bad_info.Given as goal

abbrev pub invariant-loop-i : goal.invariant-loop-i
invariant-loop-i l =
    least (λ i. not (is_info l.purpose (byte_in l.infos i))) l.i (l.infos.count - l.i) ≡ least (λ i. not (is_info l.purpose (byte_in l.infos i))) 0 l.infos.count
