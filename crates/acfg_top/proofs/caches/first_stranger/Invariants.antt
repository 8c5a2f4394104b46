use Rattle.std.proofs.Common.{take}
use Rattle.acfg_top.specs.CreateStorage.{AreOwn}
use Rattle.acfg_top.proofs.caches.first_stranger.Given as goal

abbrev pub invariant-loop-position : goal.invariant-loop-position
invariant-loop-position l = AreOwn l.container (take l.position l.flags)
