use Rattle.std.proofs.Common.{◌≡◌, ◌++◌, [], map, take, drop}
use Rattle.std.specs.Prelude.{All}
use Rattle.acfg_decls.specs.Compile.{declarations_tests, declared, flag_of}
use Rattle.acfg_decls.specs.Flags.{IsLawful}
use Rattle.acfg_decls.specs.Places.{Finds, names}
use Rattle.acfg_decls.proofs.Numbered.{PassedIn}
use Rattle.acfg_decls.proofs.compiling.declare_all.Given as goal

abbrev pub invariant-loop-file : goal.invariant-loop-file
invariant-loop-file l = record {
  counted : l.number ≡ l.file-index;
  finds : Finds l.places (names l.flags.items);
  flags : l.flags.items ≡ l.fn.flags.items ++ map (flag_of l.package l.container []) (declared (take l.file-index l.files));
  lawful : All IsLawful l.fn.flags.items → All IsLawful l.flags.items;
  passed : PassedIn 0 l.number (declarations_tests l.package l.container (names l.flags.items) (drop l.file-index l.files)) (declarations_tests l.package l.container (names l.fn.flags.items) l.files);
}
