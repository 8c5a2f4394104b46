use Rattle.std.proofs.Common.{◌≡◌, ◌+◌, ◌++◌, map, take, drop}
use Rattle.std.specs.Prelude.{All}
use Rattle.std.specs.List.{flat_map}
use Rattle.acfg_decls.specs.Compile.{file_tests, flag_of, sourced}
use Rattle.acfg_decls.specs.Flags.{IsLawful}
use Rattle.acfg_decls.specs.Places.{WhereMade, names}
use Rattle.acfg_decls.proofs.Numbered.{PassedIn}
use Rattle.acfg_decls.proofs.compiling.set_all.Given as goal

abbrev pub invariant-loop-file : goal.invariant-loop-file
invariant-loop-file l = record {
  counted : l.number ≡ l.first + l.file-index;
  named : names l.flags.items ≡ names l.fn.flags.items;
  lawful : All IsLawful l.fn.flags.items → All IsLawful l.flags.items;
  made : WhereMade l.package l.fn.flags.items (λ container set declared. l.flags.items ≡ map (flag_of l.package container (set ++ flat_map sourced (take l.file-index l.files))) declared);
  passed : WhereMade l.package l.fn.flags.items (λ container set declared. PassedIn l.first l.number (map (file_tests l.package declared) (drop l.file-index l.files)) (map (file_tests l.package declared) l.files));
}
