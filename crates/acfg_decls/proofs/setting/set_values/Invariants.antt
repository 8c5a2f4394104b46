use Rattle.std.proofs.Common.{◌≡◌, ◌++◌, map, take, drop}
use Rattle.std.specs.Prelude.{All}
use Rattle.std.specs.List.{flat_map}
use Rattle.acfg_decls.specs.Compile.{flag_of, value_tests}
use Rattle.acfg_decls.specs.Flags.{IsLawful}
use Rattle.acfg_decls.specs.Places.{WhereMade, names}
use Rattle.acfg_decls.proofs.Tested.{Passed}
use Rattle.acfg_decls.proofs.setting.set_values.Given as goal

abbrev pub invariant-loop-value : goal.invariant-loop-value
invariant-loop-value l = record {
  named : names l.flags.items ≡ names l.fn.flags.items;
  lawful : All IsLawful l.fn.flags.items → All IsLawful l.flags.items;
  made : WhereMade l.package l.fn.flags.items (λ container set declared. l.flags.items ≡ map (flag_of l.package container (set ++ map (λ value. (l.file.source, value)) (take l.value-index l.value-items))) declared);
  passed : WhereMade l.package l.fn.flags.items (λ container set declared. Passed (flat_map (value_tests l.package declared) (drop l.value-index l.value-items)) (flat_map (value_tests l.package declared) l.value-items));
  same : l.value-items ≡ l.file.values;
}
