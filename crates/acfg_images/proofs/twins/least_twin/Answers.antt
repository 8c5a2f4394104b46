use Rattle.std.proofs.Common.{ℕ, ◌+◌, ◌≤◌, ◌⊎◌, length, Option, sym, subst, ◌∙◌, inl, inr, arith}
use Rattle.acfg_images.specs.Twins.{HasTwin, IsLeast}
use Rattle.acfg_images.proofs.TwinRows.{no_twin, twins_kept, twins_more, twins_end}
use Rattle.acfg_images.proofs.twins.least_twin.Goals as goal
use Rattle.acfg_images.proofs.twins.least_twin.Goals.{then-have_one_key, else-have_one_key}

pub loop-k-preserved : goal.loop-k-preserved
loop-k-preserved c =
    let rows = c.args.rows.now in
    let k = c.loop-k.k in
    let some : 1 ≤ k = omega (arith, c.loop-k.auto.k) in
    let next : (k + 1 ≤ length rows) ⊎ (k + 1 ≤ 1) = inl (let lt = c.loop-k-test.true in omega arith) in
    elim c.if-have_one_key.branch [
      | then-have_one_key w ↦ (
        subst (λ (o : Option ℕ). IsLeast (HasTwin rows (k + 1)) o) (sym (w.least-is ∙ w.lesser-least.ensures))
            (twins_more rows k some c.loop-k-test.true c.loop-k.least (sym c.have_one_key.ensures ∙ w.if-have_one_key.true) c.loop-k.invariant.0),
        next,
      )
      | else-have_one_key w ↦ (
        subst (λ (o : Option ℕ). IsLeast (HasTwin rows (k + 1)) o) (sym w.least-is)
            (twins_kept rows k some c.loop-k-test.true c.loop-k.least (sym c.have_one_key.ensures ∙ w.if-have_one_key.false) c.loop-k.invariant.0),
        next,
      )
    ]

pub loop-k-init : goal.loop-k-init
loop-k-init c = (no_twin c.args.rows.now, inr (omega arith))

pub returns : goal.returns
returns c = twins_end c.args.rows.now (length c.args.rows.now) c.loop-k.k c.loop-k.least c.loop-k-test.false c.loop-k.invariant.1 c.loop-k.invariant.0
