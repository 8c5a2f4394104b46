use Rattle.std.proofs.Common.{ℕ, ◌<◌, get_or}
use Rattle.acfg_base.specs.declared.releases.Entry.{Entry}
use Rattle.acfg_base.specs.Release.{key_of, IsKey}
use Rattle.acfg_base.proofs.releases.are_named.Given as goal

abbrev pub invariant-loop-entry : goal.invariant-loop-entry
invariant-loop-entry l = (k : ℕ) (d : Entry) → k < l.entry-index → IsKey (key_of (get_or l.entries k d))
