use Rattle.std.proofs.Common.{◌-◌}
use Rattle.acfg_text.proofs.Numbers.{ReadSoFar}
use Rattle.acfg_text.proofs.quoted.read_digits.Given as goal

abbrev pub invariant-loop-count : goal.invariant-loop-count
invariant-loop-count l = ReadSoFar l.base l.start l.most l.text l.count l.value

abbrev pub decreases-loop-count : goal.decreases-loop-count
decreases-loop-count l = l.most - l.count
