-- A word on finite maps that `FinMap` lacks.
use Rattle.std.specs.Prelude.{map}
use Rattle.std.specs.declared.cmp.Ordering.{Ordering}
use Rattle.std.specs.FinMap.{FinMap, from_entries, entries}

-- the map with the same keys, and at each of them what `f` makes of the key and the value
unfoldable pub map_values : {K X Y : Type 0} {cmp : K → K → Ordering} → (K → X → Y) → FinMap cmp X → FinMap cmp Y
map_values f m = from_entries (map (λ e. (e.0, f e.0 e.1)) (entries m))
