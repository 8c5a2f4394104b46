use Rattle.std.proofs.Common.{◌≡◌}
use Rattle.acfg_sip.specs.SipHash.{sip_rounds}
use Rattle.acfg_sip.proofs.state.State.rounds.Given as goal

abbrev pub invariant-loop : goal.invariant-loop
invariant-loop g l = l.self ≡ sip_rounds l.counter l.fn.self
