use Rattle.std.proofs.Common.{◌≡◌, ◌-◌, ◌≤◌, length, drop}
use Rattle.acfg_text.specs.Scanning.{scan}
use Rattle.acfg_text.proofs.quoted.scan_quoted.Given as goal

abbrev pub invariant-loop-at : goal.invariant-loop-at
invariant-loop-at l = (l.at ≤ length l.text) × (scan l.quote 0 0 l.text ≡ scan l.quote 0 l.at (drop l.at l.text))

abbrev pub decreases-loop-at : goal.decreases-loop-at
decreases-loop-at l = length l.text - l.at
