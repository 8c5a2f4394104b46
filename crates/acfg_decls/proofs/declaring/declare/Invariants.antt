use Rattle.std.proofs.Common.{◌≡◌, ◌++◌, [], map, take, drop}
use Rattle.std.specs.Prelude.{All}
use Rattle.acfg_decls.specs.Compile.{flag_of, flag_tests}
use Rattle.acfg_decls.specs.Flags.{IsLawful}
use Rattle.acfg_decls.specs.Places.{Finds, names}
use Rattle.acfg_decls.proofs.Tested.{Passed}
use Rattle.acfg_decls.proofs.declaring.declare.Given as goal

abbrev pub invariant-loop-flag : goal.invariant-loop-flag
invariant-loop-flag l = record {
  finds : Finds l.places (names l.flags.items);
  flags : l.flags.items ≡ l.fn.flags.items ++ map (λ flag. flag_of l.package l.container [] (l.file.source, flag)) (take l.flag-index l.flag-items);
  lawful : All IsLawful l.fn.flags.items → All IsLawful l.flags.items;
  passed : Passed (flag_tests (names l.flags.items) (drop l.flag-index l.flag-items)) (flag_tests (names l.fn.flags.items) l.flag-items);
  same : l.flag-items ≡ l.file.flags;
}
