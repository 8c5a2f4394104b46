use Rattle.std.proofs.Common.{sym}
use Rattle.std.proofs.lemmas.Result.{err_from_is_err_and}
use Rattle.acfg_decls.proofs.FieldsRead.{text_fails_at, walk_fails_at}
use Rattle.acfg_decls.proofs.files.test_field.Goals as goal

pub returns-in_err-pass-in-Some-clause-err : goal.returns-in_err-pass-in-Some-clause-err
returns-in_err-pass-in-Some-clause-err c =
    let p = err_from_is_err_and c.from_residual.result c.from_residual.ensures.1 in
    rw (p.1, p.2) (text_fails_at c.args.message c.args.earlier.now c.args.field.now c.in_err-pass-in-Some.field-0.0 c.args.fields.now c.in_err-pass-in-Some.ensures.err)

pub returns-in_ok-pass-in-Some-clause-err : goal.returns-in_ok-pass-in-Some-clause-err
returns-in_ok-pass-in-Some-clause-err c =
    walk_fails_at c.args.message c.args.earlier.now c.args.field.now c.args.fields.now c.in-Some.place c.in-Some.what c.in-Some.ensures c.in_ok-pass-in-Some.ensures.ok

pub returns-in-None-clause-sound : goal.returns-in-None-clause-sound
returns-in-None-clause-sound c = sym c.in-None.ensures
