use Rattle.std.proofs.Common.{◌∙◌, sym, inr}
use Rattle.acfg_cache.specs.Reading.{FirstFails, flag_of, made_tests, own_tests}
use Rattle.acfg_cache.specs.Bodies.{counted_read}
use Rattle.acfg_cache.proofs.Passed.{if_err_weaker}
use Rattle.acfg_cache.proofs.conditions.test_whole.Goals as goal

pub returns-then-is_whole-clause-err : goal.returns-then-is_whole-clause-err
returns-then-is_whole-clause-err c =
    let counts = counted_read c.args.counted.now in
    if_err_weaker c.test_flag.result (FirstFails (own_tests c.args.index (flag_of counts))) (FirstFails (made_tests c.args.index counts))
    (λ told fails. inr (sym c.is_whole.ensures ∙ c.if-is_whole.true, fails))
    c.test_flag.ensures.err
