use Rattle.std.proofs.Common.{◌∙◌, ap, sym}
use Rattle.acfg_text.specs.Marked.{marked}
use Rattle.acfg_text.proofs.Steps.{kind_there}
use Rattle.acfg_text.proofs.marks.Tokens.kind.Goals as goal

pub returns : goal.returns
returns c l rest is = kind_there c.self.inside.source.now c.self.inside.marks c.args.self.now c.args.at _ l rest (sym c.self.view_is) c.requires is ∙ ap (λ p. (marked c.self.inside.source.now p).kind) (sym c.at-start.ensures) ∙ sym c.kind_at.ensures
