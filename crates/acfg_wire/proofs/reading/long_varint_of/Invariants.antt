use Rattle.std.proofs.Common.{◌≡◌, ◌-◌, ◌*◌, ◌^◌, ◌<◌, ◌≤◌, drop}
use Rattle.acfg_wire.specs.Reading.{varint_within, varint_at}
use Rattle.acfg_wire.proofs.VarintLoop.{with_low}
use Rattle.acfg_wire.proofs.reading.long_varint_of.Given as goal

abbrev pub invariant-loop-i : goal.invariant-loop-i
invariant-loop-i l =
    (l.i ≤ 9) × (l.value < 2 ^ (7 * l.i))
    × (with_low l.value (2 ^ (7 * l.i)) (varint_within (9 - l.i) (drop l.i l.bytes)) ≡ varint_at l.bytes)
