use Rattle.std.proofs.Common.{sym, ◌∙◌}
use Rattle.acfg_hostdev.proofs.Noted.{found}
use Rattle.acfg_hostdev.proofs.folders.is_among.Goals as goal

pub returns-then-eq : goal.returns-then-eq
returns-then-eq c is_found =
    found c.args.names.now c.loop-noted.noted-index c.noted-item.result c.as_str.result.now c.args.name.now c.loop-noted-test.true c.noted-item.is c.as_str.ensures.value (sym c.eq.ensures ∙ c.if-eq.true)
