use Rattle.std.proofs.Common.{ℕ, ◌<◌, slice_index_or}
use Rattle.acfg_decls.specs.declared.flags.Flag.{Flag}
use Rattle.acfg_decls.specs.Flags.{IsLawful}
use Rattle.acfg_decls.proofs.flags.are_lawful.Given as goal

abbrev pub invariant-loop-flag : goal.invariant-loop-flag
invariant-loop-flag l = (k : ℕ) (d : Flag) → k < l.flag-index → IsLawful (slice_index_or l.list k d)
