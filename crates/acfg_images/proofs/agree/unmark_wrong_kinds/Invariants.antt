use Rattle.std.proofs.Common.{take}
use Rattle.acfg_images.proofs.Tables.{Fits}
use Rattle.acfg_images.proofs.agree.unmark_wrong_kinds.Given as goal

abbrev pub invariant-loop-flag : goal.invariant-loop-flag
invariant-loop-flag l = Fits l.infos l.starts l.marks (take l.flag-index l.flags)
