use Rattle.std.proofs.Common.{◌≡◌, ◌++◌, [], drop, map, filter_map}
use Rattle.std.specs.Prelude.{All}
use Rattle.acfg_decls.specs.Flags.{IsLawful}
use Rattle.acfg_cache.specs.Reading.{flag_at, flag_in, flags_tests}
use Rattle.acfg_cache.specs.Bodies.{Rise, parts_read}
use Rattle.acfg_cache.proofs.Passed.{PassedIn}
use Rattle.acfg_cache.proofs.decoding.read_flags.Given as goal

abbrev pub invariant-loop-field : goal.invariant-loop-field
invariant-loop-field l = record {
  read : l.flags.items ++ map flag_in (filter_map flag_at (parts_read (drop l.field-index l.fields))) ≡ map flag_in (filter_map flag_at (parts_read l.fields));
  rise : Rise l.flags.items;
  lawful : All IsLawful l.flags.items;
  passed : PassedIn (flags_tests l.flags.items (filter_map flag_at (parts_read (drop l.field-index l.fields)))) (flags_tests [] (filter_map flag_at (parts_read l.fields)));
}
