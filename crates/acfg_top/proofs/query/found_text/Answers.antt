use Rattle.std.proofs.Common.{append_assoc, ◌∙◌}
use Rattle.std.proofs.lemmas.Result.{IfOk-weaker}
use Rattle.acfg_top.proofs.query.found_text.Goals as goal

pub returns : goal.returns
returns c = IfOk-weaker c.format.result _ _ (λ text e. e ∙ simp (append_assoc, c.kind_name-kind.ensures, c.value_name-value.ensures)) c.format.ensures.ok
