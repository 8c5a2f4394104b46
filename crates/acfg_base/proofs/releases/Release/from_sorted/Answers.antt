use Rattle.std.proofs.Common.{subst}
use Rattle.acfg_base.specs.Release.{AreNamed}
use Rattle.acfg_base.proofs.releases.Release.from_sorted.Goals as goal

pub invariant_of-result : goal.invariant_of-result
invariant_of-result c = record { order = c.requires; named = subst AreNamed c.deref.ensures.value c.are_named.ensures }
