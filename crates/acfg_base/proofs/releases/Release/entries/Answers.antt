use Rattle.std.proofs.Common.{sym, ap, ◌∙◌}
use Rattle.acfg_base.specs.Release.{entries_of}
use Rattle.acfg_base.proofs.Keys.{entries_of-release_of}
use Rattle.acfg_base.proofs.releases.Release.entries.Goals as goal

pub returns-clause-all : goal.returns-clause-all
returns-clause-all c = c.as_slice.ensures.value ∙ sym (entries_of-release_of _ c.self.invariant.order) ∙ ap entries_of c.self.view_is
