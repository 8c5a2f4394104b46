use Rattle.std.proofs.Common.{◌≡◌, ◌++◌, drop}
use Rattle.acfg_cache.specs.Counted.{leaves}
use Rattle.acfg_cache.specs.Reading.{message_tests}
use Rattle.acfg_cache.specs.Bodies.{leaves_read, parts_read}
use Rattle.acfg_cache.proofs.Passed.{PassedIn}
use Rattle.acfg_cache.proofs.counting.read_leaves.Given as goal

abbrev pub invariant-loop-field : goal.invariant-loop-field
invariant-loop-field l = record {
  read : leaves_read l.leaves.items ++ leaves l.message (parts_read (drop l.field-index l.fields)) ≡ leaves l.message (parts_read l.fields);
  passed : PassedIn (message_tests l.index l.message (parts_read (drop l.field-index l.fields))) (message_tests l.index l.message (parts_read l.fields));
}
