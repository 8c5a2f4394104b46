use Rattle.std.proofs.Common.{take}
use Rattle.acfg_images.proofs.Tables.{Counts}
use Rattle.acfg_images.proofs.agree.count_numbers.Given as goal

abbrev pub invariant-loop-number : goal.invariant-loop-number
invariant-loop-number l = Counts l.counts (take l.number-index l.numbers)
