use Rattle.std.proofs.Common.{append_assoc, ◌∙◌}
use Rattle.std.proofs.lemmas.Result.{on_ok_weaker}
use Rattle.acfg_top.proofs.flags.push_line.Goals as goal

-- src/flags.rt:82:1
pub returns : goal.returns
returns c = on_ok_weaker c.write.result
    (λ e. e ∙ simp (append_assoc, c.as_str-package.ensures.text, c.as_str-name.ensures.text, c.as_str-container.ensures.text, c.permission_name-permission.ensures, c.state_name-state.ensures))
    c.write.ensures.bytes
