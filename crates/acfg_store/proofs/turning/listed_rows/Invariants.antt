use Rattle.std.proofs.Common.{◌≡◌, map, take}
use Rattle.acfg_store.specs.Opening.{entries_of}
use Rattle.acfg_store.specs.Stands.{recorded}
use Rattle.acfg_store.proofs.turning.listed_rows.Given as goal

abbrev pub invariant-loop-one : goal.invariant-loop-one
invariant-loop-one l = l.rows.items ≡ map recorded (entries_of (take l.one-index l.kept))
