use Rattle.std.proofs.Common.{◌≡◌, ◌≤◌, length, drop}
use Rattle.acfg_images.specs.Faults.{wrong_next}
use Rattle.acfg_images.specs.Code.{links_of}
use Rattle.acfg_images.proofs.Heads.{Heads}
use Rattle.acfg_images.proofs.chains.wrong_next.Given as goal

abbrev pub invariant-loop-i : goal.invariant-loop-i
invariant-loop-i l =
    (l.i ≤ length l.links)
    × Heads l.firsts (drop l.i l.links)
    × (l.wrong ≡ wrong_next (length l.firsts) (links_of (drop l.i l.links)))

abbrev pub decreases-loop-i : goal.decreases-loop-i
decreases-loop-i l = l.i
