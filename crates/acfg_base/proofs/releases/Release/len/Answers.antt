use Rattle.std.proofs.Common.{length, sym, ap, subst, ◌∙◌}
use Rattle.std.specs.FinMap.{len}
use Rattle.acfg_base.specs.Release.{HasLawfulKeys}
use Rattle.acfg_base.proofs.Keys.{len-release_of, named_keys}
use Rattle.acfg_base.proofs.releases.Release.len.Goals as goal

pub returns-clause-count : goal.returns-clause-count
returns-clause-count c = ap length c.as_slice.ensures.value ∙ sym (len-release_of _ c.self.invariant.order) ∙ ap len c.self.view_is

pub returns-clause-keys : goal.returns-clause-keys
returns-clause-keys c = subst HasLawfulKeys c.self.view_is (named_keys _ c.self.invariant.named)
