use Rattle.std.proofs.Common.{◌≡◌, map, take}
use Rattle.acfg_images.specs.Twins.{row_of}
use Rattle.acfg_images.proofs.twins.list_rows.Given as goal

abbrev pub invariant-loop-link : goal.invariant-loop-link
invariant-loop-link l = l.rows.items ≡ map row_of (take l.link-index l.links)
