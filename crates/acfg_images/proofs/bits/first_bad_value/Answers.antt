use Rattle.std.proofs.Common.{arith}
use Rattle.std.specs.Prelude.{nat_lt}
use Rattle.acfg_views.specs.Reading.{byte_in}
use Rattle.acfg_images.proofs.Least.{least_found, least_next, least_end, over_one, within_one, below_count}
use Rattle.acfg_images.proofs.bits.first_bad_value.Goals as goal

pub returns-then-at-gt1 : goal.returns-then-at-gt1
returns-then-at-gt1 c =
    least_found (λ i. nat_lt 1 (byte_in c.args.values.now i)) c.args.values.now.count c.loop-i.i _ (below_count c.loop-i-test.true c.count-i-end.ensures.count) (over_one c.if-at-gt1.true c.at.ensures) c.loop-i.invariant

pub loop-i-preserved : goal.loop-i-preserved
loop-i-preserved c =
    least_next (λ i. nat_lt 1 (byte_in c.args.values.now i)) c.args.values.now.count c.loop-i.i _ (below_count c.loop-i-test.true c.count-i-end.ensures.count) (within_one c.if-at-gt1.false c.at.ensures) c.loop-i.invariant

pub returns : goal.returns
returns c =
    least_end (λ i. nat_lt 1 (byte_in c.args.values.now i)) c.args.values.now.count c.loop-i.i _ (let h = c.loop-i-test.false in let e = c.count-i-end.ensures.count in omega arith) c.loop-i.invariant
