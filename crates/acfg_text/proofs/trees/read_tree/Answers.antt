use Rattle.std.proofs.Common.{sym, subst}
use Rattle.std.proofs.lemmas.Option.{MatchOption-at_none, MatchOption-at_some}
use Rattle.std.proofs.lemmas.Result.{err_from_is_err_and}
use Rattle.acfg_text.specs.Trees.{tree}
use Rattle.acfg_text.specs.Progress.{HasRead}
use Rattle.acfg_text.proofs.Failures.{at_weaker}
use Rattle.acfg_text.proofs.trees.read_tree.Goals as goal

pub loop-items-init : goal.loop-items-init
loop-items-init c = subst (λ i. HasRead c.args.source.now i c.in_ok-fields.fields) (sym c.new-items.ensures) c.in_ok-fields.ensures.ok

pub loop-items-preserved : goal.loop-items-preserved
loop-items-preserved c =
    subst (λ i. HasRead c.args.source.now i c.next.new.self) (sym c.in_ok-push.ensures.ok) (MatchOption-at_some _ _ c.in-Some.field c.in-Some.is c.in_ok-field.ensures.ok c.args.source.now c.loop-items.items c.loop-items.invariant)

pub returns-in_err-field-clause-err : goal.returns-in_err-field-clause-err
returns-in_err-field-clause-err c =
    let p = err_from_is_err_and c.from_residual-in_err-field.result c.from_residual-in_err-field.ensures.1 in
    rw (p.1, p.2) (at_weaker c.in_err-field.field-0.0 _ _ (λ q w f. f c.args.source.now c.loop-items.items c.loop-items.invariant) c.in_err-field.ensures.err)

pub returns-clause-ok : goal.returns-clause-ok
unfolding tree
returns-clause-ok c = MatchOption-at_none _ _ c.in_default.is c.in_ok-field.ensures.ok c.args.source.now c.loop-items.items c.loop-items.invariant
