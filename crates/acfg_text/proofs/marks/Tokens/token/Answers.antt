use Rattle.std.proofs.Common.{◌∙◌, ap, sym}
use Rattle.acfg_text.specs.Marked.{marked}
use Rattle.acfg_text.proofs.Steps.{token_there}
use Rattle.acfg_text.proofs.marks.Tokens.token.Goals as goal

pub returns : goal.returns
returns c = token_there c.self.inside.source.now c.self.inside.marks c.args.self.now c.args.at _ c.token_at.result (sym c.self.view_is) c.requires (c.token_at.ensures ∙ ap (marked c.self.inside.source.now) c.at-start.ensures)
