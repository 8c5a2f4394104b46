use Rattle.std.proofs.Common.{eqb, not, length, get_or, refl}
use Rattle.acfg_images.proofs.Least.{least_found, least_next, least_end}
use Rattle.acfg_images.proofs.Heads.{differs, agrees}
use Rattle.acfg_images.proofs.chains.first_different.Goals as goal

pub returns-then-buckets-b-clause-first : goal.returns-then-buckets-b-clause-first
returns-then-buckets-b-clause-first c =
    least_found (λ b. not (eqb (get_or c.args.buckets.now b 0) (get_or c.args.firsts.now b 0))) (length c.args.buckets.now) c.loop-b.b _ c.loop-b-test.true (differs _ _ _ refl c.if-buckets-b.true) c.loop-b.invariant

pub loop-b-preserved : goal.loop-b-preserved
loop-b-preserved c =
    least_next (λ b. not (eqb (get_or c.args.buckets.now b 0) (get_or c.args.firsts.now b 0))) (length c.args.buckets.now) c.loop-b.b _ c.loop-b-test.true (agrees _ _ _ refl c.if-buckets-b.false) c.loop-b.invariant

pub returns-clause-first : goal.returns-clause-first
returns-clause-first c =
    least_end (λ b. not (eqb (get_or c.args.buckets.now b 0) (get_or c.args.firsts.now b 0))) (length c.args.buckets.now) c.loop-b.b _ c.loop-b-test.false c.loop-b.invariant
