use Rattle.std.proofs.Common.{◌+◌, [], ◌++◌, drop, sym, subst, ◌∙◌, ap}
use Rattle.std.proofs.lemmas.Result.{err_from_is_err_and}
use Rattle.acfg_decls.specs.Compile.{FirstFails, flag_of, flag_tests, header_tests, tests_behind}
use Rattle.acfg_decls.specs.Places.{names}
use Rattle.acfg_decls.proofs.Tested.{Passed, at_weaker, fails_front, fails_behind, front_passed, flag_next, names_next, made_next}
use Rattle.acfg_decls.proofs.declaring.declare.Goals as goal

pub returns-in_err-declare_flag-clause-err : goal.returns-in_err-declare_flag-clause-err
returns-in_err-declare_flag-clause-err c =
    let p = err_from_is_err_and c.from_residual-in_err-declare_flag.result c.from_residual-in_err-declare_flag.ensures.1 in
    let header = header_tests c.args.package.now c.args.container.now c.args.file.now in
    let declared = c.as_slice-flag-items.result.now in
    let i = c.loop-flag.flag-index in
    let flag = c.flag-item.result in
    let earlier = names c.loop-flag.flags.items in
    let before = names c.args.flags.now.items in
    rw (p.1, p.2) (at_weaker c.in_err-declare_flag.field-0.0 (FirstFails (tests_behind earlier flag)) (FirstFails (header ++ flag_tests before c.args.file.now.flags))
    (λ place what fails.
    let here = subst (λ tests. FirstFails tests place what) (sym (flag_next earlier declared i flag c.loop-flag-test.true c.flag-item.is)) (fails_front (tests_behind earlier flag) _ place what fails) in
    fails_behind header (flag_tests before c.args.file.now.flags) place what c.in_ok-test_header.ensures.ok
    (subst (λ flags. FirstFails (flag_tests before flags) place what) c.as_slice-flag-items.ensures (c.loop-flag.invariant.passed.fails place what here)))
    c.in_err-declare_flag.ensures.err)

pub loop-flag-preserved : goal.loop-flag-preserved
loop-flag-preserved c =
    let declared = c.as_slice-flag-items.result.now in
    let i = c.loop-flag.flag-index in
    let flag = c.flag-item.result in
    let earlier = names c.loop-flag.flags.items in
    let before = names c.args.flags.now.items in
    let made = flag_of c.args.package.now c.args.container.now [] (c.args.file.now.source, flag) in
    let more = names_next c.loop-flag.flags.items c.declare_flag.new.flags.items made c.in_ok-declare_flag.ensures.flags in
    record {
      finds = c.in_ok-declare_flag.ensures.finds;
      flags = made_next (λ flag. flag_of c.args.package.now c.args.container.now [] (c.args.file.now.source, flag)) c.args.flags.now.items c.loop-flag.flags.items c.declare_flag.new.flags.items declared i flag c.loop-flag-test.true c.flag-item.is c.loop-flag.invariant.flags c.in_ok-declare_flag.ensures.flags;
      lawful = λ lawful. c.in_ok-declare_flag.ensures.lawful (c.loop-flag.invariant.lawful lawful);
      passed = front_passed (tests_behind earlier flag) _ _ c.in_ok-declare_flag.ensures.passed
          (subst (λ tests. Passed tests (flag_tests before declared))
          (flag_next earlier declared i flag c.loop-flag-test.true c.flag-item.is ∙ ap (λ names. tests_behind earlier flag ++ flag_tests names (drop (i + 1) declared)) (sym more)) c.loop-flag.invariant.passed);
      same = c.loop-flag.invariant.same;
    }
