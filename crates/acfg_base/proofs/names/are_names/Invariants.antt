use Rattle.std.proofs.Common.{◌≡◌}
use Rattle.acfg_base.proofs.Neighbours.{before, FollowBelow}
use Rattle.acfg_base.proofs.names.are_names.Given as goal

abbrev pub invariant-loop-byte : goal.invariant-loop-byte
invariant-loop-byte l = record { previous : l.previous ≡ before l.text l.byte-index; each : FollowBelow l.text l.byte-index }
