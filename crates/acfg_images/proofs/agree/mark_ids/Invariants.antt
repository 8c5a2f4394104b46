use Rattle.std.proofs.Common.{take}
use Rattle.acfg_images.proofs.Tables.{Marked}
use Rattle.acfg_images.proofs.agree.mark_ids.Given as goal

abbrev pub invariant-loop-node : goal.invariant-loop-node
invariant-loop-node l = Marked l.marks (take l.node-index l.packages)
