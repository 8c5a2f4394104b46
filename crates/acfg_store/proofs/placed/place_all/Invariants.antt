use Rattle.std.proofs.Common.{◌≡◌, map, All}
use Rattle.acfg_base.specs.Release.{key_of}
use Rattle.acfg_images.specs.Faults.{parts_in}
use Rattle.acfg_store.specs.Placed.{IsTold, placed_key}
use Rattle.acfg_store.proofs.placed.place_all.Given as goal

abbrev pub invariant-loop-entry : goal.invariant-loop-entry
invariant-loop-entry g l = (map placed_key l.rows.items ≡ map key_of l.yielded) × All (IsTold (parts_in l.set)) l.rows.items
