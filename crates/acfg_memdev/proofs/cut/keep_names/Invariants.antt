use Rattle.std.proofs.Common.{◌≡◌, vec_len}
use Rattle.acfg_memdev.specs.Cut.{kept}
use Rattle.acfg_memdev.specs.Slots.{changes_of, names_of}
use Rattle.acfg_memdev.proofs.cut.keep_names.Given as goal

abbrev pub invariant-newest : goal.invariant-newest
invariant-newest l = kept l.count (changes_of l.pending.items) (names_of l.slots) ≡ kept l.count (changes_of l.initial.pending.items) (names_of l.initial.slots)

abbrev pub decreases-newest : goal.decreases-newest
decreases-newest l = vec_len l.pending
