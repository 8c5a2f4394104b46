use Rattle.std.proofs.Common.{◌≡◌, map, take}
use Rattle.acfg_views.specs.Reading.{flag_of}
use Rattle.acfg_images.specs.Code.{table_index}
use Rattle.acfg_images.proofs.agree.global_indexes.Given as goal

abbrev pub invariant-loop-flag : goal.invariant-loop-flag
invariant-loop-flag l = l.indexes.items ≡ map (table_index l.starts) (map flag_of (take l.flag-index l.flags))
