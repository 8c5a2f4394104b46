use Rattle.std.proofs.Common.{◌≡◌, ◌+◌, ◌-◌, ◌*◌, ◌%◌, ◌^◌, ◌<◌, ◌≤◌, get_or, refl, arith}
use Rattle.std.proofs.lemmas.List.{take_rest}
use Rattle.acfg_wire.specs.Reading.{varint_at}
use Rattle.acfg_wire.proofs.VarintLoop.{one_bit, joined_at, ends_here, goes_on, scale_more, no_low, below_tenth, below_more_groups}
use Rattle.acfg_wire.proofs.reading.long_varint_of.Goals as goal

pub loop-i-init : goal.loop-i-init
unfolding varint_at
loop-i-init c = (omega arith, omega arith, no_low _)

pub returns-then-byte-lt128 : goal.returns-then-byte-lt128
returns-then-byte-lt128 c =
    let bytes = c.args.bytes.now in
    let i = c.loop-i.i in
    let b = get_or bytes i 0 in
    let value = c.loop-i.value in
    let bit : i ≡ 9 → b ≤ 1 = one_bit i b c.else-i-eq-TENTH.either in
    let small : b % 128 ≡ b = omega (arith, c.if-byte-lt128.true) in
    let e = joined_at value b i c.loop-i.invariant.0 bit c.loop-i.invariant.1 in
    let f = ends_here bytes value i b _ c.loop-i.invariant.0 c.loop-i-test.true refl c.loop-i.invariant.2 c.if-byte-lt128.true bit in
    rw (c.from.ensures, e, small, take_rest bytes (i + 1)) f

pub loop-i-preserved : goal.loop-i-preserved
loop-i-preserved c =
    let bytes = c.args.bytes.now in
    let i = c.loop-i.i in
    let b = get_or bytes i 0 in
    let value = c.loop-i.value in
    let bit : i ≡ 9 → b ≤ 1 = one_bit i b c.else-i-eq-TENTH.either in
    let early : i < 9 = below_tenth i b c.loop-i.invariant.0 bit c.if-byte-lt128.false in
    let fits : b < 256 = omega (arith, c.type_inv.bytes i) in
    let low : b % 128 ≡ b - 128 = omega (arith, c.if-byte-lt128.false) in
    let e = joined_at value b i c.loop-i.invariant.0 bit c.loop-i.invariant.1 in
    let f = goes_on bytes value i b _ c.loop-i.invariant.0 c.loop-i-test.true refl c.loop-i.invariant.2 early c.if-byte-lt128.false in
    rw (c.from.ensures, e, low) (omega arith, rw (scale_more i) (below_more_groups value (2 ^ (7 * i)) (b - 128) c.loop-i.invariant.1 (omega arith)), f)
