use Rattle.std.proofs.Common.{◌≡◌, ◌∙◌, None, [], refl, ap, subst, sym}
use Rattle.std.proofs.lemmas.Option.{MatchOption-at_none, MatchOption-at_some}
use Rattle.std.proofs.lemmas.Result.{err_from_is_err_and}
use Rattle.acfg_decls.specs.Compile.{IfAt}
use Rattle.acfg_decls.specs.Reading.{FailsAt}
use Rattle.acfg_decls.specs.Walk.{first, item_faults, walk}
use Rattle.acfg_decls.specs.declared.messages.Message.TheVariants as message
use Rattle.acfg_decls.specs.declared.reading.Declaring.{Declaring}
use Rattle.acfg_decls.proofs.FieldsRead.{Declared, declared_all, declared_fails, declared_lacks, declared_more, text_fails, whole_of}
use Rattle.acfg_decls.proofs.files.read_declarations.Goals as goal

pub loop-kept-init : goal.loop-kept-init
loop-kept-init c = record {
  items = [];
  read = c.in_ok-fields.ensures.ok;
  sound = refl;
  others_are = ap (λ (k : Declaring). k.others) c.new-kept.ensures;
  flags_are = ap (λ (k : Declaring). k.flags) c.new-kept.ensures;
}

pub loop-kept-preserved : goal.loop-kept-preserved
loop-kept-preserved c =
    let l = c.loop-kept in
    let more = c.in_ok-keep_field.ensures in
    subst (λ rest. Declared c.args.bytes.now rest c.keep_field.new.kept.others c.keep_field.new.kept.flags) (sym c.in_ok-test_field.ensures.stays)
    (declared_more c.args.bytes.now l.fields c.next.new.self c.in-Some.field (MatchOption-at_some _ _ c.in-Some.field c.in-Some.is c.in_ok-field.ensures.ok) l.kept.others l.kept.flags l.invariant c.keep_field.new.kept.others c.keep_field.new.kept.flags (subst (λ earlier. first (item_faults (walk 2) message.FlagDeclarations earlier c.in-Some.field) ≡ None) c.as_slice-earlier.ensures c.in_ok-test_field.ensures.sound) more.others more.flags)

pub returns-in_err-field-clause-err : goal.returns-in_err-field-clause-err
returns-in_err-field-clause-err c =
    let p = err_from_is_err_and c.from_residual-in_err-field.result c.from_residual-in_err-field.ensures.1 in
    let l = c.loop-kept in
    rw (p.1, p.2) (text_fails message.FlagDeclarations c.in_err-field.field-0.0 l.fields c.args.bytes.now l.invariant.items l.invariant.read c.in_err-field.ensures.err)

pub returns-in_err-test_field-clause-err : goal.returns-in_err-test_field-clause-err
returns-in_err-test_field-clause-err c =
    let p = err_from_is_err_and c.from_residual-in_err-test_field.result c.from_residual-in_err-test_field.ensures.1 in
    let l = c.loop-kept in
    rw (p.1, p.2) (declared_fails c.args.bytes.now l.fields c.next.new.self c.in-Some.field (MatchOption-at_some _ _ c.in-Some.field c.in-Some.is c.in_ok-field.ensures.ok) l.kept.others l.kept.flags l.invariant c.in_err-test_field.field-0.0 (subst (λ earlier. IfAt c.in_err-test_field.field-0.0 (FailsAt message.FlagDeclarations earlier c.in-Some.field c.next.new.self)) c.as_slice-earlier.ensures c.in_err-test_field.ensures.err))

pub returns-clause-err : goal.returns-clause-err
returns-clause-err c =
    let l = c.loop-kept in
    declared_lacks c.args.bytes.now l.fields l.kept.others l.kept.flags l.invariant (MatchOption-at_none _ _ c.in_default.is c.in_ok-field.ensures.ok) (whole_of c.as_slice-others.ensures c.is_whole.ensures c.if-is_whole.false)

pub returns-then-is_whole-clause-ok : goal.returns-then-is_whole-clause-ok
returns-then-is_whole-clause-ok c =
    let l = c.loop-kept in
    declared_all c.args.source.now c.args.bytes.now l.fields l.kept.others l.kept.flags _ l.invariant (MatchOption-at_none _ _ c.in_default.is c.in_ok-field.ensures.ok) (whole_of c.as_slice-others.ensures c.is_whole.ensures c.if-is_whole.true) (c.new-then-is_whole.ensures ∙ c.in_ok-declarations_of.ensures)
