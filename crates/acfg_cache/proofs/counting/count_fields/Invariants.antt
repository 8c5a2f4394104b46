use Rattle.std.proofs.Common.{◌≡◌, drop}
use Rattle.acfg_cache.specs.Counted.{counting}
use Rattle.acfg_cache.specs.Reading.{fields_tests}
use Rattle.acfg_cache.specs.Bodies.{behind, counted_read, parts_read}
use Rattle.acfg_cache.proofs.Passed.{PassedIn}
use Rattle.acfg_cache.proofs.counting.count_fields.Given as goal

abbrev pub invariant-loop-field : goal.invariant-loop-field
invariant-loop-field l = record {
  counted : behind (counted_read l.counted) (counting (parts_read (drop l.field-index l.fields))) ≡ counting (parts_read l.fields);
  passed : PassedIn (fields_tests l.index (parts_read (drop l.field-index l.fields))) (fields_tests l.index (parts_read l.fields));
}
