use Rattle.acfg_memdev.proofs.Leaving.{filled_more}
use Rattle.acfg_memdev.proofs.cut.fill_ranges.Goals as goal

pub loop-place-preserved : goal.loop-place-preserved
loop-place-preserved c =
    filled_more c.args.ranges.now c.args.fill c.args.bytes.now c.loop-place.left.items c.push.new.self.items _ c.loop-place.place c.filled_byte.result
    c.loop-place-test.true c.filled_byte.ensures c.in_ok-push.ensures.items c.loop-place.invariant
