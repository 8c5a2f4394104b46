use Rattle.std.proofs.Common.{◌∷◌, []}
use Rattle.acfg_wire.proofs.Shortest.{varint_field_is, bytes_field_is}
use Rattle.acfg_wire.proofs.Joined.{one_field}
use Rattle.acfg_wire.proofs.Outcomes.{outcome_behind}
use Rattle.acfg_wire.proofs.laws.put_is_read.Goals as goal

pub returns : goal.returns
returns c = record {
  varint = varint_field_is;
  bytes = bytes_field_is;
  again = λ text rest f outcome is after. outcome_behind text rest (f ∷ []) outcome (one_field text f is) after;
}
