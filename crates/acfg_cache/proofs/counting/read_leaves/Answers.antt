use Rattle.std.proofs.lemmas.Result.{err_from_is_err_and}
use Rattle.acfg_cache.specs.Counted.{held}
use Rattle.acfg_cache.specs.Reading.{if_held, leaf_tests, message_tests}
use Rattle.acfg_cache.specs.Bodies.{leaves_read, parts_read}
use Rattle.acfg_cache.proofs.Steps.{field_fails, field_passes, leaves_next}
use Rattle.acfg_cache.proofs.counting.read_leaves.Goals as goal

pub returns-in_err-add_field-clause-err : goal.returns-in_err-add_field-clause-err
returns-in_err-add_field-clause-err c =
    let p = err_from_is_err_and c.from_residual-in_err-add_field.result c.from_residual-in_err-add_field.ensures.1 in
    rw (p.1, p.2) (field_fails (λ part. if_held (leaf_tests c.args.index) (held c.args.message part)) c.args.fields.now c.loop-field.field-index _ (message_tests c.args.index c.args.message (parts_read c.args.fields.now)) c.in_err-add_field.field-0.0 c.loop-field-test.true c.loop-field.invariant.passed c.in_err-add_field.ensures.err)

pub loop-field-preserved : goal.loop-field-preserved
loop-field-preserved c = record {
  read = leaves_next c.args.message c.args.fields.now c.loop-field.field-index _ (leaves_read c.loop-field.leaves.items) (leaves_read c.add_field.new.leaves.items) c.loop-field-test.true c.in_ok-add_field.ensures.leaves c.loop-field.invariant.read;
  passed = field_passes (λ part. if_held (leaf_tests c.args.index) (held c.args.message part)) c.args.fields.now c.loop-field.field-index _ (message_tests c.args.index c.args.message (parts_read c.args.fields.now)) c.loop-field-test.true c.loop-field.invariant.passed c.in_ok-add_field.ensures.passed;
}
