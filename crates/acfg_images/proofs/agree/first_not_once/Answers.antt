use Rattle.std.proofs.Common.{eqb, not, get_or, length, refl}
use Rattle.acfg_images.proofs.Least.{least_found, least_next, least_end}
use Rattle.acfg_images.proofs.Heads.{differs, agrees}
use Rattle.acfg_images.proofs.agree.first_not_once.Goals as goal

pub returns-then-counts-k-ne1-clause-first : goal.returns-then-counts-k-ne1-clause-first
returns-then-counts-k-ne1-clause-first c =
    least_found (λ k. not (eqb (get_or c.args.counts.now k 0) 1)) (length c.args.counts.now) c.loop-k.k _ c.loop-k-test.true (differs _ _ _ refl c.if-counts-k-ne1.true) c.loop-k.invariant

pub loop-k-preserved : goal.loop-k-preserved
loop-k-preserved c =
    least_next (λ k. not (eqb (get_or c.args.counts.now k 0) 1)) (length c.args.counts.now) c.loop-k.k _ c.loop-k-test.true (agrees _ _ _ refl c.if-counts-k-ne1.false) c.loop-k.invariant

pub returns-clause-first : goal.returns-clause-first
returns-clause-first c = least_end (λ k. not (eqb (get_or c.args.counts.now k 0) 1)) (length c.args.counts.now) c.loop-k.k _ c.loop-k-test.false c.loop-k.invariant
