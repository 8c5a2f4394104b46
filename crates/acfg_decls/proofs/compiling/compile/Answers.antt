use Rattle.std.proofs.Common.{◌≡◌, ◌++◌, [], List, map, IsPermutation, sym, ap, subst, ◌∙◌, arith}
use Rattle.std.specs.Prelude.{All}
use Rattle.std.specs.List.{AllByRecursion, flat_map}
use Rattle.std.proofs.lemmas.Result.{err_from_is_err_and}
use Rattle.acfg_decls.specs.declared.flags.Flag.{Flag}
use Rattle.acfg_decls.specs.Compile.{FailsToCompile, FirstFailsIn, Holds, IfIn, declarations_tests, declared, file_tests, flag_of, sourced, all_tests}
use Rattle.acfg_decls.specs.Flags.{IsLawful}
use Rattle.acfg_decls.specs.Places.{Finds, names}
use Rattle.acfg_decls.proofs.Distinct.{distinct, no_flags_back}
use Rattle.acfg_decls.proofs.Moved.{moved_on}
use Rattle.acfg_decls.proofs.Tested.{all_hold}
use Rattle.acfg_decls.proofs.Numbered.{in_behind, in_front, in_weaker, length-declarations_tests}
use Rattle.acfg_decls.proofs.compiling.compile.Goals as goal

none_unlawful : (flags : List Flag) → flags ≡ [] → All IsLawful flags
none_unlawful flags none = subst (All IsLawful) (sym none) (λ k d within. absurd (omega (arith, within)))

pub returns-in_err-declare_all-clause-err : goal.returns-in_err-declare_all-clause-err
returns-in_err-declare_all-clause-err c =
    let p = err_from_is_err_and c.from_residual-in_err-declare_all.result c.from_residual-in_err-declare_all.ensures.1 in
    let asked = c.args.package.now in
    let container = c.args.container.now in
    let files = c.args.declarations.now in
    let values = c.args.values.now in
    rw (p.1, p.2) (in_weaker c.in_err-declare_all.field-0.0 (FirstFailsIn 0 (declarations_tests asked container [] files)) (FailsToCompile (all_tests asked container files values))
    (λ file place what fails. in_front 0 (declarations_tests asked container [] files) (map (file_tests asked (declared files)) values) file place what fails)
    (subst (λ flags. IfIn c.in_err-declare_all.field-0.0 (FirstFailsIn 0 (declarations_tests asked container (names flags) files))) c.in_ok-list.ensures c.in_err-declare_all.ensures.err))

pub returns-in_err-set_all-clause-err : goal.returns-in_err-set_all-clause-err
returns-in_err-set_all-clause-err c =
    let p = err_from_is_err_and c.from_residual-in_err-set_all.result c.from_residual-in_err-set_all.ensures.1 in
    let asked = c.args.package.now in
    let container = c.args.container.now in
    let files = c.args.declarations.now in
    let values = c.args.values.now in
    let made = c.in_ok-declare_all.ensures.flags ∙ ap (λ flags. flags ++ map (flag_of asked container []) (declared files)) c.in_ok-list.ensures in
    rw (p.1, p.2) (in_weaker c.in_err-set_all.field-0.0 _ (FailsToCompile (all_tests asked container files values))
    (λ file place what fails.
    in_behind 0 (declarations_tests asked container [] files) (map (file_tests asked (declared files)) values) file place what
    (subst (λ flags. AllByRecursion (AllByRecursion Holds) (declarations_tests asked container (names flags) files)) c.in_ok-list.ensures c.in_ok-declare_all.ensures.passed)
    (subst (λ n. FirstFailsIn n (map (file_tests asked (declared files)) values) file place what) (omega (arith, length-declarations_tests asked container [] files)) (fails container [] (declared files) made)))
    c.in_err-set_all.ensures.err)

pub unreachable-requires : goal.unreachable-requires
unreachable-requires c =
    let asked = c.args.package.now in
    let container = c.args.container.now in
    let files = c.args.declarations.now in
    let made = c.in_ok-declare_all.ensures.flags ∙ ap (λ flags. flags ++ map (flag_of asked container []) (declared files)) c.in_ok-list.ensures in
    distinct asked container (flat_map sourced c.args.values.now) (declared files) c.set_all.new.flags.items c.declare_all.new.places
    (c.in_ok-set_all.ensures.made container [] (declared files) made)
    (subst (Finds c.declare_all.new.places) (sym c.in_ok-set_all.ensures.names) c.in_ok-declare_all.ensures.finds)
    (c.in_ok-set_all.ensures.lawful (c.in_ok-declare_all.ensures.lawful (none_unlawful _ c.in_ok-list.ensures)))
    (no_flags_back _ _ c.in_ok-arrange.ensures (rw c.in-None.is at c.in_ok-flags.ensures.flags))

pub returns-clause-ok : goal.returns-clause-ok
returns-clause-ok c =
    let asked = c.args.package.now in
    let container = c.args.container.now in
    let files = c.args.declarations.now in
    let values = c.args.values.now in
    let made = c.in_ok-declare_all.ensures.flags ∙ ap (λ flags. flags ++ map (flag_of asked container []) (declared files)) c.in_ok-list.ensures in
    record {
      passed = all_hold (declarations_tests asked container [] files) (map (file_tests asked (declared files)) values)
          (subst (λ flags. AllByRecursion (AllByRecursion Holds) (declarations_tests asked container (names flags) files)) c.in_ok-list.ensures c.in_ok-declare_all.ensures.passed)
          (c.in_ok-set_all.ensures.passed container [] (declared files) made);
      are = rw c.in-Some.is at c.in_ok-flags.ensures.lawful;
      same = subst (λ list. IsPermutation list c.in-Some.flags) (c.in_ok-set_all.ensures.made container [] (declared files) made)
          (moved_on _ _ _ c.in_ok-arrange.ensures (rw c.in-Some.is at c.in_ok-flags.ensures.flags));
    }
