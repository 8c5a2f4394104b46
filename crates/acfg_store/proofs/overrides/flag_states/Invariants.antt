use Rattle.std.proofs.Common.{◌≡◌, map}
use Rattle.acfg_store.specs.Placed.{state_row}
use Rattle.acfg_store.proofs.overrides.flag_states.Given as goal

abbrev pub invariant-loop-flag : goal.invariant-loop-flag
invariant-loop-flag l = l.rows.items ≡ map (state_row l.fn.values l.fn.infos l.fn.locals) l.yielded
