use Rattle.std.proofs.Common.{[], map, filter_map}
use Rattle.std.proofs.lemmas.Result.{err_from_is_err_and}
use Rattle.acfg_cache.specs.Reading.{flag_at, flag_in, flags_tests}
use Rattle.acfg_cache.specs.Bodies.{parts_read}
use Rattle.acfg_cache.proofs.Orders.{flag_fails, flag_passes, flags_next}
use Rattle.acfg_cache.proofs.decoding.read_flags.Goals as goal

pub returns-in_err-add_field-clause-err : goal.returns-in_err-add_field-clause-err
returns-in_err-add_field-clause-err c =
    let p = err_from_is_err_and c.from_residual.result c.from_residual.ensures.1 in
    let fields = c.args.fields.now in
    rw (p.1, p.2) (flag_fails c.loop-field.flags.items fields c.loop-field.field-index _ (flags_tests [] (filter_map flag_at (parts_read fields))) c.in_err-add_field.field-0.0 c.loop-field-test.true c.loop-field.invariant.passed c.in_err-add_field.ensures.err)

pub loop-field-preserved : goal.loop-field-preserved
loop-field-preserved c =
    let fields = c.args.fields.now in
    let i = c.loop-field.field-index in
    let before = c.loop-field.flags.items in
    let after = c.add_field.new.flags.items in
    record {
      read = flags_next before after fields i _ (map flag_in (filter_map flag_at (parts_read fields))) c.loop-field-test.true c.in_ok-add_field.ensures.flags c.loop-field.invariant.read;
      rise = c.in_ok-add_field.ensures.rise c.loop-field.invariant.rise;
      lawful = c.in_ok-add_field.ensures.lawful c.loop-field.invariant.lawful;
      passed = flag_passes before after fields i _ (flags_tests [] (filter_map flag_at (parts_read fields))) c.loop-field-test.true c.loop-field.invariant.passed c.in_ok-add_field.ensures.flags c.in_ok-add_field.ensures.passed;
    }
