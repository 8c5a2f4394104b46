-- Private: a table of marks, one for each flag, by which local overrides are put in order of indexes. No public clause
-- cites it.
use Rattle.std.specs.Prelude.{ℕ, ◌+◌, ◌==◌, Bool, if◌then◌else◌, List, [], ◌∷◌, Option, Some, None}
use Rattle.acfg_model.specs.declared.containers.FlagState.{FlagState}
use Rattle.acfg_store.specs.declared.locals.LocalOverride.{LocalOverride}
use Rattle.acfg_store.specs.Records.{bit}

-- the mark of a flag: 0 without a local override, 1 where it is off, 2 where it is on
abbrev pub mark_for : Option Bool → ℕ
mark_for None = 0
mark_for (Some value) = 1 + bit value

abbrev pub local_mark : FlagState → ℕ
local_mark row = mark_for row.local

-- the override that a mark is, where it is one
abbrev pub mark_value : ℕ → Option Bool
mark_value mark = if mark == 0 then None else Some (mark == 2)

-- a row before others, where there is a value
abbrev pub row_before : ℕ → Option Bool → List LocalOverride → List LocalOverride
row_before index None rest = rest
row_before index (Some value) rest = record { index = index; value = value } ∷ rest

-- the overrides that a table lists, the first of whose marks is of this index
abbrev pub marked_from : ℕ → List ℕ → List LocalOverride
marked_from at [] = []
marked_from at (mark ∷ table) = row_before at (mark_value mark) (marked_from (at + 1) table)
