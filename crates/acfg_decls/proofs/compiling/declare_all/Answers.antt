use Rattle.std.proofs.Common.{◌+◌, ◌++◌, ◌∷◌, drop, sym, ap, subst, ◌∙◌, arith}
use Rattle.acfg_decls.specs.Compile.{declarations_tests, flag_tests, header_tests}
use Rattle.acfg_decls.specs.Places.{names}
use Rattle.acfg_decls.proofs.Numbered.{PassedIn, declared_next, file_next, file_passed, names_behind, same_item}
use Rattle.acfg_decls.proofs.compiling.declare_all.Goals as goal

pub loop-file-preserved : goal.loop-file-preserved
loop-file-preserved c =
    let asked = c.args.package.now in
    let container = c.args.container.now in
    let files = c.args.files.now in
    let i = c.loop-file.file-index in
    let file = c.file.result.now in
    let is = same_item files i c.file-item.result file c.loop-file-test.true c.file-item.is c.file.ensures in
    let before = names c.args.flags.now.items in
    let earlier = names c.loop-file.flags.items in
    let behind = names_behind asked container file.source c.loop-file.flags.items c.declare.new.flags.items file.flags c.in-Ok.ensures.flags in
    record {
      counted = omega (arith, c.loop-file.invariant.counted);
      finds = c.in-Ok.ensures.finds;
      flags = declared_next asked container c.args.flags.now.items c.loop-file.flags.items c.declare.new.flags.items files i file c.loop-file-test.true is c.loop-file.invariant.flags c.in-Ok.ensures.flags;
      lawful = λ lawful. c.in-Ok.ensures.lawful (c.loop-file.invariant.lawful lawful);
      passed = file_passed 0 c.loop-file.number _ _ _ c.in-Ok.ensures.passed
          (subst (λ tests. PassedIn 0 c.loop-file.number tests (declarations_tests asked container before files))
          (file_next asked container earlier files i file c.loop-file-test.true is ∙ ap (λ names. (header_tests asked container file ++ flag_tests earlier file.flags) ∷ declarations_tests asked container names (drop (i + 1) files)) (sym behind)) c.loop-file.invariant.passed);
    }
