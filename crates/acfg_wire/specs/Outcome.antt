-- What bytes are: fields, or a first fault. Each list of bytes is one of these alone.
use Rattle.std.specs.Prelude.{ℕ, ◌+◌, List, ◌++◌, Result, Ok, Err}
use Rattle.acfg_wire.specs.declared.fault.WireFault.{WireFault}
use Rattle.acfg_wire.specs.declared.fault.WireFault.TheVariants.{Truncated, LongVarint, BadType, OutOfMemory}
use Rattle.acfg_wire.specs.Fields.{WireField, IsFields}
use Rattle.acfg_wire.specs.Faults.{IsFirstFault, IsTruncated, HasLongVarint, HasBadType}

-- the bytes are these fields, or this is their first fault; want of memory is no fault of bytes
abbrev pub IsOutcome : List ℕ → Result (List WireField) WireFault → Type 0
IsOutcome bytes (Ok fields) = IsFields bytes fields
IsOutcome bytes (Err (Truncated place)) = IsFirstFault IsTruncated bytes place
IsOutcome bytes (Err (LongVarint place)) = IsFirstFault HasLongVarint bytes place
IsOutcome bytes (Err (BadType place)) = IsFirstFault HasBadType bytes place
IsOutcome bytes (Err OutOfMemory) = ⊥

-- a fault so many bytes further on
abbrev pub moved : ℕ → WireFault → WireFault
moved by (Truncated place) = Truncated (by + place)
moved by (LongVarint place) = LongVarint (by + place)
moved by (BadType place) = BadType (by + place)
moved by OutOfMemory = OutOfMemory

-- what comes of bytes behind these fields, which take so many bytes
abbrev pub behind : List WireField → ℕ → Result (List WireField) WireFault → Result (List WireField) WireFault
behind fields len (Ok others) = Ok (fields ++ others)
behind fields len (Err fault) = Err (moved len fault)
