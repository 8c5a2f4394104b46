use Rattle.std.proofs.lemmas.Option.{MatchOption-at_none, MatchOption-at_some}
use Rattle.std.proofs.lemmas.Result.{err_from_is_err_and}
use Rattle.acfg_text.proofs.Failures.{at_weaker}
use Rattle.acfg_text.proofs.Onward.{leads_here, leads_on, leads_to_all, leads_to_fault}
use Rattle.acfg_text.proofs.reader.FieldReader.pass.Goals as goal

pub loop-field-init : goal.loop-field-init
loop-field-init c = leads_here c.args.self.now

pub loop-field-preserved : goal.loop-field-preserved
loop-field-preserved c = leads_on c.args.self.now c.loop-field.self c.next.new.self c.in-Some.field c.loop-field.invariant (MatchOption-at_some _ _ c.in-Some.field c.in-Some.is c.in_ok-field.ensures.ok)

pub returns-in_err-field-clause-err : goal.returns-in_err-field-clause-err
returns-in_err-field-clause-err c =
    let p = err_from_is_err_and c.from_residual.result c.from_residual.ensures.1 in
    rw (p.1, p.2) (at_weaker c.in_err-field.field-0.0 _ _ (λ q w f. leads_to_fault c.args.self.now c.loop-field.self q w c.loop-field.invariant f) c.in_err-field.ensures.err)

pub returns-clause-ok : goal.returns-clause-ok
returns-clause-ok c = leads_to_all c.args.self.now c.loop-field.self c.loop-field.invariant (MatchOption-at_none _ _ c.in_default.is c.in_ok-field.ensures.ok)
