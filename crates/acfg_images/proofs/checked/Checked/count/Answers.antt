use Rattle.std.proofs.Common.{◌∙◌, ap}
use Rattle.acfg_images.specs.Faults.{Opened}
use Rattle.acfg_images.specs.Views.{opened_of}
use Rattle.acfg_images.proofs.Law.{same_counts}
use Rattle.acfg_images.proofs.checked.Checked.count.Goals as goal

pub returns-clause-values : goal.returns-clause-values
returns-clause-values c =
    c.count.ensures ∙ (same_counts (opened_of c.self.inside.views) c.self.invariant.faultless).0 ∙ ap (λ (o : Opened). o.values.count) c.self.view_is

pub returns-clause-bits : goal.returns-clause-bits
returns-clause-bits c =
    c.count.ensures ∙ (same_counts (opened_of c.self.inside.views) c.self.invariant.faultless).1 ∙ ap (λ (o : Opened). o.infos.count) c.self.view_is
