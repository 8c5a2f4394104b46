use Rattle.std.proofs.Common.{append_assoc, ◌∙◌}
use Rattle.std.proofs.lemmas.Result.{IfOk-weaker}
use Rattle.acfg_top.proofs.create_storage.stored_words.Goals as goal

pub returns : goal.returns
returns c = IfOk-weaker c.format.result _ _ (λ text e. e ∙ simp (append_assoc, c.in_ok-digits.ensures, c.as_slice.ensures)) c.format.ensures.ok
