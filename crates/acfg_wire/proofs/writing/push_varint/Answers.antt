use Rattle.std.proofs.Common.{arith}
use Rattle.acfg_wire.proofs.Put.{left_first, left_next}
use Rattle.acfg_wire.proofs.writing.push_varint.Goals as goal

pub loop-rest-init : goal.loop-rest-init
loop-rest-init c = (left_first _ _ _ c.ranges.value.fits, omega arith)

pub loop-rest-preserved : goal.loop-rest-preserved
loop-rest-preserved c =
    let ok = c.unwrap.ensures in
    let items = rw ok at c.push.ensures.items in
    let len = rw ok at c.push.ensures.len in
    let next = left_next _ _ _ _ c.loop-rest.rest c.loop-rest.invariant.0 c.loop-rest-test.true in
    (rw (items, len) next, omega arith)
