use Rattle.std.proofs.Common.{◌≡◌, ◌-◌, ◌≤◌, ◌++◌, length, take, drop}
use Rattle.acfg_text.specs.Escapes.{value_behind}
use Rattle.acfg_text.proofs.quoted.plain_behind.Given as goal

abbrev pub invariant-loop-at : goal.invariant-loop-at
invariant-loop-at l = (l.at ≤ length l.text) × (take l.at l.text ++ value_behind l.quote 0 (drop l.at l.text) ≡ value_behind l.quote 0 l.text)

abbrev pub decreases-loop-at : goal.decreases-loop-at
decreases-loop-at l = length l.text - l.at
