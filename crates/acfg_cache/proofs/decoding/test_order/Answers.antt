use Rattle.std.proofs.Common.{◌≡◌, ◌∙◌, None, Some, length, sym, subst}
use Rattle.std.specs.Prelude.{IfErr, OnOk}
use Rattle.std.specs.List.{AllByRecursion, last_or}
use Rattle.acfg_cache.specs.Reading.{FirstFails, Holds, IfFault, order_tests}
use Rattle.acfg_cache.proofs.Orders.{last_is}
use Rattle.acfg_cache.proofs.decoding.test_order.Goals as goal

pub returns-in-Some-clause-passed : goal.returns-in-Some-clause-passed
returns-in-Some-clause-passed c =
    let flags = c.args.flags.now in
    let last : last_or None flags ≡ Some c.in-Some.before.now = last_is flags ∙ sym c.in-Some.ensures.value in
    subst (λ before. OnOk c.test_behind.result (AllByRecursion Holds (order_tests (length flags) before c.args.flag.now))) (sym last) c.test_behind.ensures.passed

pub returns-in-Some-clause-err : goal.returns-in-Some-clause-err
returns-in-Some-clause-err c =
    let flags = c.args.flags.now in
    let last : last_or None flags ≡ Some c.in-Some.before.now = last_is flags ∙ sym c.in-Some.ensures.value in
    subst (λ before. IfErr c.test_behind.result (λ fault. IfFault fault (FirstFails (order_tests (length flags) before c.args.flag.now)))) (sym last) c.test_behind.ensures.err
