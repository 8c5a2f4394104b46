use Rattle.std.proofs.Common.{[], refl}
use Rattle.std.proofs.lemmas.Result.{err_from_is_err_and}
use Rattle.acfg_text.proofs.Failures.{at_weaker}
use Rattle.acfg_text.proofs.reader.next_field.Goals as goal

pub returns-in_err-require_end-clause-err : goal.returns-in_err-require_end-clause-err
returns-in_err-require_end-clause-err c =
    let p = err_from_is_err_and c.from_residual.result c.from_residual.ensures.1 in
    rw (p.1, p.2) (at_weaker c.in_err-require_end.field-0.0 _ _ (λ q w f. f c.args.end) c.in_err-require_end.ensures.err)

pub returns-in_err-field-clause-err : goal.returns-in_err-field-clause-err
returns-in_err-field-clause-err c =
    let p = err_from_is_err_and c.from_residual-in_err-field.result c.from_residual-in_err-field.ensures.1 in
    rw (p.1, p.2) (at_weaker c.in_err-field.field-0.0 _ _ (λ q w f items. f items [] refl) c.in_err-field.ensures.err)
