use Rattle.std.proofs.Common.{append_assoc, ◌∙◌}
use Rattle.std.proofs.lemmas.Result.{IfOk-weaker}
use Rattle.acfg_top.proofs.query.path_in.Goals as goal

pub returns : goal.returns
returns c = IfOk-weaker c.format.result _ _ (λ path e. e ∙ simp (append_assoc, c.file_name-name.ensures)) c.format.ensures.ok
