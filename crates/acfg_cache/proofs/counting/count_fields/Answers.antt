use Rattle.std.proofs.lemmas.Result.{err_from_is_err_and}
use Rattle.acfg_cache.specs.declared.table.Message.TheVariants.{ParsedFlag}
use Rattle.acfg_cache.specs.Counted.{held}
use Rattle.acfg_cache.specs.Reading.{field_tests, fields_tests, if_held}
use Rattle.acfg_cache.specs.Bodies.{counted_read, parts_read}
use Rattle.acfg_cache.proofs.Steps.{counting_next, field_fails, field_passes}
use Rattle.acfg_cache.proofs.counting.count_fields.Goals as goal

pub returns-in_err-count_field-clause-err : goal.returns-in_err-count_field-clause-err
returns-in_err-count_field-clause-err c =
    let p = err_from_is_err_and c.from_residual-in_err-count_field.result c.from_residual-in_err-count_field.ensures.1 in
    rw (p.1, p.2) (field_fails (λ part. if_held (field_tests c.args.index part.begins) (held ParsedFlag part)) c.args.fields.now c.loop-field.field-index _ (fields_tests c.args.index (parts_read c.args.fields.now)) c.in_err-count_field.field-0.0 c.loop-field-test.true c.loop-field.invariant.passed c.in_err-count_field.ensures.err)

pub loop-field-preserved : goal.loop-field-preserved
loop-field-preserved c = record {
  counted = counting_next c.args.fields.now c.loop-field.field-index _ (counted_read c.loop-field.counted) (counted_read c.count_field.new.counted) c.loop-field-test.true c.in_ok-count_field.ensures.counted c.loop-field.invariant.counted;
  passed = field_passes (λ part. if_held (field_tests c.args.index part.begins) (held ParsedFlag part)) c.args.fields.now c.loop-field.field-index _ (fields_tests c.args.index (parts_read c.args.fields.now)) c.loop-field-test.true c.loop-field.invariant.passed c.in_ok-count_field.ensures.passed;
}
