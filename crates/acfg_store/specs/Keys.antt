-- By what rows of the directory's lists are in order.
use Rattle.std.specs.Prelude.{ℕ, List}
use Rattle.acfg_store.specs.declared.locals.LocalOverride.{LocalOverride}
use Rattle.acfg_store.specs.declared.records.Recorded.{Recorded}

abbrev pub recorded_name : Recorded → List ℕ
recorded_name row = row.name

abbrev pub local_index : LocalOverride → ℕ
local_index row = row.index
