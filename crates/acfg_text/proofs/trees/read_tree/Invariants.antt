use Rattle.std.proofs.Common.{length}
use Rattle.acfg_text.specs.Progress.{HasRead}
use Rattle.acfg_text.proofs.trees.read_tree.Given as goal

-- what is there has been read
abbrev pub invariant-loop-items : goal.invariant-loop-items
invariant-loop-items l = HasRead l.source l.items l.fields

abbrev pub decreases-loop-items : goal.decreases-loop-items
decreases-loop-items l = length l.fields.ahead
