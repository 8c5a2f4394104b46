use Rattle.std.proofs.Common.{◌++◌, map, take, sym, ap, subst, ◌∙◌, arith}
use Rattle.std.specs.List.{flat_map}
use Rattle.acfg_decls.specs.Compile.{FirstFailsIn, IfIn, file_tests, flag_of, sourced}
use Rattle.acfg_decls.specs.Places.{WhereMade}
use Rattle.acfg_decls.proofs.Numbered.{PassedIn, file_passed, same_item, sourced_next, tests_next, values_fail}
use Rattle.acfg_decls.proofs.compiling.set_all.Goals as goal

pub returns-in-Err-clause-err : goal.returns-in-Err-clause-err
returns-in-Err-clause-err c =
    let asked = c.args.package.now in
    let files = c.args.files.now in
    let i = c.loop-file.file-index in
    let is = same_item files i c.file-item.result c.file.result.now c.loop-file-test.true c.file-item.is c.file.ensures in
    subst (λ fault. IfIn fault (λ at place what. WhereMade asked c.args.flags.now.items (λ container set declared. FirstFailsIn c.args.first (map (file_tests asked declared) files) at place what))) (sym c.in_file.ensures)
    (values_fail c.in-Err.fault asked c.args.flags.now.items c.loop-file.flags.items c.args.first c.loop-file.number (flat_map sourced (take i files)) files i c.file.result.now c.loop-file-test.true is
    c.loop-file.invariant.made c.loop-file.invariant.passed c.in-Err.ensures.err)

pub loop-file-preserved : goal.loop-file-preserved
loop-file-preserved c =
    let asked = c.args.package.now in
    let files = c.args.files.now in
    let i = c.loop-file.file-index in
    let file = c.file.result.now in
    let is = same_item files i c.file-item.result file c.loop-file-test.true c.file-item.is c.file.ensures in
    record {
      counted = omega (arith, c.loop-file.invariant.counted);
      named = c.in-Ok.ensures.names ∙ c.loop-file.invariant.named;
      lawful = λ lawful. c.in-Ok.ensures.lawful (c.loop-file.invariant.lawful lawful);
      made = λ container set declared made.
          c.in-Ok.ensures.made container (set ++ flat_map sourced (take i files)) declared (c.loop-file.invariant.made container set declared made)
          ∙ ap (λ set. map (flag_of asked container set) declared) (sourced_next set files i file c.loop-file-test.true is);
      passed = λ container set declared made.
          file_passed c.args.first c.loop-file.number (file_tests asked declared file) _ _
          (c.in-Ok.ensures.passed container (set ++ flat_map sourced (take i files)) declared (c.loop-file.invariant.made container set declared made))
          (subst (λ tests. PassedIn c.args.first c.loop-file.number tests (map (file_tests asked declared) files)) (tests_next (file_tests asked declared) files i file c.loop-file-test.true is) (c.loop-file.invariant.passed container set declared made));
    }
