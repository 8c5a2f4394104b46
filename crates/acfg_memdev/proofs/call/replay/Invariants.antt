use Rattle.std.proofs.Common.{◌≡◌, drop, map}
use Rattle.acfg_memdev.specs.History.{CanDoAll, carried, until}
use Rattle.acfg_memdev.specs.Kept.{logged_of}
use Rattle.acfg_memdev.specs.Slots.{disk_of}
use Rattle.acfg_memdev.proofs.call.replay.Given as goal

abbrev pub invariant-loop-number : goal.invariant-loop-number
invariant-loop-number l = record {
  able : CanDoAll (map logged_of (drop l.number-index l.log)) (disk_of l.disk);
  so_far : carried (until l.calls (map logged_of (drop l.number-index l.log))) (disk_of l.disk) ≡ carried (until l.calls (map logged_of l.log)) (disk_of l.initial.disk);
}
