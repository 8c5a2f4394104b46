use Rattle.acfg_dump.proofs.Spelling.{never_named}
use Rattle.acfg_dump.proofs.parts.split_placeholder.Goals as goal

pub returns-in_err-placeholder : goal.returns-in_err-placeholder
returns-in_err-placeholder c =
    let cut = c.in_ok-name.ensures in
    let none = c.in_err-placeholder.ensures in
    rw c.from_residual-in_err-placeholder.ensures (never_named c.args.text.now c.in_ok-name.name.now c.in_ok-name.behind.now cut none)
