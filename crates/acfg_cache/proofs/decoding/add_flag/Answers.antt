use Rattle.std.proofs.Common.{◌≡◌, List, length, None, sym, subst, rules}
use Rattle.std.specs.List.{AllByRecursion, last_or}
use Rattle.std.proofs.lemmas.Result.{err_from_is_err_and}
use Rattle.acfg_decls.specs.declared.flags.Flag.{Flag}
use Rattle.acfg_cache.specs.Reading.{FirstFails, Holds, IfFault, order_tests}
use Rattle.acfg_cache.specs.Bodies.{Rise}
use Rattle.acfg_cache.proofs.Orders.{one_flag_fails, one_place_fails, rise_more}
use Rattle.acfg_cache.proofs.decoding.add_flag.Goals as goal

pub returns-in_err-flag-clause-err : goal.returns-in_err-flag-clause-err
returns-in_err-flag-clause-err c =
    let p = err_from_is_err_and c.from_residual.result c.from_residual.ensures.1 in
    let before = c.args.flags.now.items in
    let counted : c.len.result ≡ length before = search rules in
    rw (p.1, p.2) (one_flag_fails before c.len.result (c.args.begins, c.args.content.now) c.in_err-flag.field-0.0 counted c.in_err-flag.ensures.err)

pub returns-in_err-test_order-clause-err : goal.returns-in_err-test_order-clause-err
returns-in_err-test_order-clause-err c =
    let p = err_from_is_err_and c.from_residual-in_err-test_order.result c.from_residual-in_err-test_order.ensures.1 in
    let before = c.args.flags.now.items in
    let flag = c.in_ok-flag.flag in
    let counted : c.len.result ≡ length before = search rules in
    let fails = subst (λ (flags : List Flag). IfFault c.in_err-test_order.field-0.0 (FirstFails (order_tests (length flags) (last_or None flags) flag))) c.deref-2.ensures.value c.in_err-test_order.ensures.err in
    rw (p.1, p.2) (one_place_fails before c.len.result (c.args.begins, c.args.content.now) flag c.in_err-test_order.field-0.0 counted c.in_ok-flag.ensures.flag c.in_ok-flag.ensures.passed fails)

pub returns-clause-rise : goal.returns-clause-rise
returns-clause-rise c = λ rise.
    let before = c.args.flags.now.items in
    let flag = c.in_ok-flag.flag in
    let holds = subst (λ (flags : List Flag). AllByRecursion Holds (order_tests (length flags) (last_or None flags) flag)) c.deref-2.ensures.value c.in_ok-test_order.ensures.passed in
    subst Rise (sym c.in_ok-push.ensures.items) (rise_more before flag (length before) rise holds)
