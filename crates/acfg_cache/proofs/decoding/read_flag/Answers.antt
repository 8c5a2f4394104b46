use Rattle.std.proofs.Common.{◌≡◌, ◌∙◌, Ok, ap, sym}
use Rattle.std.specs.List.{AllByRecursion}
use Rattle.std.proofs.lemmas.Result.{err_from_is_err_and}
use Rattle.acfg_cache.specs.Parts.{opened}
use Rattle.acfg_cache.specs.Reading.{FirstFails, Holds, flag_in, flag_of, flag_tests, made_tests}
use Rattle.acfg_cache.specs.Bodies.{counted_read, parts_read}
use Rattle.acfg_cache.proofs.Passed.{if_err_weaker, if_ok_weaker, on_ok_weaker}
use Rattle.acfg_cache.proofs.FlagReading.{fields_fail, flag_made, flag_passes, made_fails}
use Rattle.acfg_cache.proofs.decoding.read_flag.Goals as goal

pub returns-in_err-counted-clause-err : goal.returns-in_err-counted-clause-err
returns-in_err-counted-clause-err c =
    let p = err_from_is_err_and c.from_residual-in_err-counted.result c.from_residual-in_err-counted.ensures.1 in
    let parts = parts_read c.deref.result.now in
    let is : opened c.args.begins c.args.content.now ≡ Ok parts = c.in_ok-fields.ensures.ok ∙ ap (λ fields. Ok (parts_read fields)) (sym c.deref.ensures.value) in
    rw (p.1, p.2) (fields_fail c.args.index c.args.begins c.args.content.now parts c.in_err-counted.field-0.0 is c.in_err-counted.ensures.err)

pub returns-clause-flag : goal.returns-clause-flag
returns-clause-flag c =
    let parts = parts_read c.deref.result.now in
    let counts = counted_read c.in_ok-counted.counted in
    let is : opened c.args.begins c.args.content.now ≡ Ok parts = c.in_ok-fields.ensures.ok ∙ ap (λ fields. Ok (parts_read fields)) (sym c.deref.ensures.value) in
    if_ok_weaker c.make_flag.result (λ flag. flag ≡ flag_of counts) (λ flag. flag ≡ flag_in (c.args.begins, c.args.content.now))
    (λ flag made. flag_made c.args.begins c.args.content.now parts counts flag is c.in_ok-counted.ensures.counted made)
    c.make_flag.ensures.flag

pub returns-clause-passed : goal.returns-clause-passed
returns-clause-passed c =
    let parts = parts_read c.deref.result.now in
    let counts = counted_read c.in_ok-counted.counted in
    let is : opened c.args.begins c.args.content.now ≡ Ok parts = c.in_ok-fields.ensures.ok ∙ ap (λ fields. Ok (parts_read fields)) (sym c.deref.ensures.value) in
    on_ok_weaker c.make_flag.result (AllByRecursion Holds (made_tests c.args.index counts)) (AllByRecursion Holds (flag_tests c.args.index (c.args.begins, c.args.content.now)))
    (λ made. flag_passes c.args.index c.args.begins c.args.content.now parts counts is c.in_ok-counted.ensures.counted c.in_ok-counted.ensures.passed made)
    c.make_flag.ensures.passed

pub returns-clause-err : goal.returns-clause-err
returns-clause-err c =
    let parts = parts_read c.deref.result.now in
    let counts = counted_read c.in_ok-counted.counted in
    let is : opened c.args.begins c.args.content.now ≡ Ok parts = c.in_ok-fields.ensures.ok ∙ ap (λ fields. Ok (parts_read fields)) (sym c.deref.ensures.value) in
    if_err_weaker c.make_flag.result (FirstFails (made_tests c.args.index counts)) (FirstFails (flag_tests c.args.index (c.args.begins, c.args.content.now)))
    (λ told fails. made_fails c.args.index c.args.begins c.args.content.now parts counts told is c.in_ok-counted.ensures.counted c.in_ok-counted.ensures.passed fails)
    c.make_flag.ensures.err
