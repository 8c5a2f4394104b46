use Rattle.std.proofs.Common.{false, not, get_or, length, ap}
use Rattle.acfg_images.proofs.Least.{least_found, least_next, least_end}
use Rattle.acfg_images.proofs.agree.first_unmarked.Goals as goal

pub returns-then-not-marks-k-clause-first : goal.returns-then-not-marks-k-clause-first
returns-then-not-marks-k-clause-first c =
    least_found (λ k. not (get_or c.args.marks.now k false)) (length c.args.marks.now) c.loop-k.k _ c.loop-k-test.true (ap not c.if-not-marks-k.true) c.loop-k.invariant

pub loop-k-preserved : goal.loop-k-preserved
loop-k-preserved c =
    least_next (λ k. not (get_or c.args.marks.now k false)) (length c.args.marks.now) c.loop-k.k _ c.loop-k-test.true (ap not c.if-not-marks-k.false) c.loop-k.invariant

pub returns-clause-first : goal.returns-clause-first
returns-clause-first c = least_end (λ k. not (get_or c.args.marks.now k false)) (length c.args.marks.now) c.loop-k.k _ c.loop-k-test.false c.loop-k.invariant
