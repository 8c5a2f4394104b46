use Rattle.std.proofs.Common.{◌∙◌, [], refl, ap, subst, sym}
use Rattle.std.proofs.lemmas.Option.{MatchOption-at_none, MatchOption-at_some}
use Rattle.std.proofs.lemmas.Result.{err_from_is_err_and}
use Rattle.acfg_decls.specs.declared.messages.Message.TheVariants as message
use Rattle.acfg_decls.proofs.FieldsRead.{ValuesRead, values_all, values_fail, values_more, text_fails}
use Rattle.acfg_decls.proofs.files.read_values.Goals as goal

pub loop-values-init : goal.loop-values-init
loop-values-init c = record { items = []; read = c.in_ok-fields.ensures.ok; sound = refl; values_are = c.new-values.ensures }

pub loop-values-preserved : goal.loop-values-preserved
loop-values-preserved c =
    let l = c.loop-values in
    subst (λ rest. ValuesRead c.args.bytes.now rest c.keep_value.new.values) (sym c.in_ok-test_field.ensures.stays)
    (values_more c.args.bytes.now l.fields c.next.new.self c.in-Some.field (MatchOption-at_some _ _ c.in-Some.field c.in-Some.is c.in_ok-field.ensures.ok) l.values l.invariant c.keep_value.new.values c.in_ok-test_field.ensures.sound c.in_ok-keep_value.ensures)

pub returns-in_err-field-clause-err : goal.returns-in_err-field-clause-err
returns-in_err-field-clause-err c =
    let p = err_from_is_err_and c.from_residual-in_err-field.result c.from_residual-in_err-field.ensures.1 in
    let l = c.loop-values in
    rw (p.1, p.2) (text_fails message.FlagValues c.in_err-field.field-0.0 l.fields c.args.bytes.now l.invariant.items l.invariant.read c.in_err-field.ensures.err)

pub returns-in_err-test_field-clause-err : goal.returns-in_err-test_field-clause-err
returns-in_err-test_field-clause-err c =
    let p = err_from_is_err_and c.from_residual-in_err-test_field.result c.from_residual-in_err-test_field.ensures.1 in
    let l = c.loop-values in
    rw (p.1, p.2) (values_fail c.args.bytes.now l.fields c.next.new.self c.in-Some.field (MatchOption-at_some _ _ c.in-Some.field c.in-Some.is c.in_ok-field.ensures.ok) l.values l.invariant c.in_err-test_field.field-0.0 c.in_err-test_field.ensures.err)

pub returns-clause-ok : goal.returns-clause-ok
returns-clause-ok c =
    let l = c.loop-values in
    values_all c.args.source.now c.args.bytes.now l.fields l.values _ l.invariant (MatchOption-at_none _ _ c.in_default.is c.in_ok-field.ensures.ok) (c.new-2.ensures ∙ ap (λ s. record { source = s; values = l.values }) c.in_ok-copy.ensures)
