use Rattle.std.proofs.Common.{◌+◌, ◌++◌, map, take, drop, sym, ap, subst, ◌∙◌}
use Rattle.std.specs.List.{flat_map}
use Rattle.std.proofs.lemmas.Result.{err_from_is_err_and}
use Rattle.acfg_decls.specs.Compile.{FirstFails, file_tests, flag_of, value_tests}
use Rattle.acfg_decls.specs.Places.{WhereMade}
use Rattle.acfg_decls.proofs.Tested.{Passed, at_weaker, fails_front, front_passed, flat_next, more_next}
use Rattle.acfg_decls.proofs.setting.set_values.Goals as goal

pub returns-in_err-set_value-clause-err : goal.returns-in_err-set_value-clause-err
returns-in_err-set_value-clause-err c =
    let p = err_from_is_err_and c.from_residual.result c.from_residual.ensures.1 in
    let asked = c.args.package.now in
    let file = c.args.file.now in
    let values = c.as_slice-value-items.result.now in
    let i = c.loop-value.value-index in
    let value = c.value-item.result in
    rw (p.1, p.2) (at_weaker c.in_err-set_value.field-0.0
    (λ place what. WhereMade asked c.loop-value.flags.items (λ container set declared. FirstFails (value_tests asked declared value) place what))
    (λ place what. WhereMade asked c.args.flags.now.items (λ container set declared. FirstFails (file_tests asked declared file) place what))
    (λ place what fails container set declared made.
    let here = fails container (set ++ map (λ value. (file.source, value)) (take i values)) declared (c.loop-value.invariant.made container set declared made) in
    let front = fails_front (value_tests asked declared value) (flat_map (value_tests asked declared) (drop (i + 1) values)) place what here in
    let rest = subst (λ tests. FirstFails tests place what) (sym (flat_next (value_tests asked declared) values i value c.loop-value-test.true c.value-item.is)) front in
    subst (λ values. FirstFails (flat_map (value_tests asked declared) values) place what) c.as_slice-value-items.ensures ((c.loop-value.invariant.passed container set declared made).fails place what rest))
    c.in_err-set_value.ensures.err)

pub loop-value-preserved : goal.loop-value-preserved
loop-value-preserved c =
    let asked = c.args.package.now in
    let file = c.args.file.now in
    let values = c.as_slice-value-items.result.now in
    let i = c.loop-value.value-index in
    let value = c.value-item.result in
    record {
      named = c.in_ok-set_value.ensures.names ∙ c.loop-value.invariant.named;
      lawful = λ lawful. c.in_ok-set_value.ensures.lawful (c.loop-value.invariant.lawful lawful);
      made = λ container set declared made.
          c.in_ok-set_value.ensures.made container (set ++ map (λ value. (file.source, value)) (take i values)) declared (c.loop-value.invariant.made container set declared made)
          ∙ ap (λ set. map (flag_of asked container set) declared) (more_next (λ value. (file.source, value)) set values i value c.loop-value-test.true c.value-item.is);
      passed = λ container set declared made.
          front_passed (value_tests asked declared value) _ _
          (c.in_ok-set_value.ensures.passed container (set ++ map (λ value. (file.source, value)) (take i values)) declared (c.loop-value.invariant.made container set declared made))
          (subst (λ tests. Passed tests (flat_map (value_tests asked declared) values)) (flat_next (value_tests asked declared) values i value c.loop-value-test.true c.value-item.is) (c.loop-value.invariant.passed container set declared made));
      same = c.loop-value.invariant.same;
    }
