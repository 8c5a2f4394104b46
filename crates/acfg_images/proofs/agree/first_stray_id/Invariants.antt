use Rattle.std.proofs.Common.{◌≡◌, drop, map}
use Rattle.acfg_views.specs.Reading.{flag_of}
use Rattle.acfg_images.specs.Faults.{stray_id}
use Rattle.acfg_images.proofs.agree.first_stray_id.Given as goal

abbrev pub invariant-loop-flag : goal.invariant-loop-flag
invariant-loop-flag l = stray_id l.count (map flag_of (drop l.flag-index l.flags)) ≡ stray_id l.count (map flag_of l.flags)
