-- The one outcome of bytes as a function, with the places of keys: the fields one after another, or the first fault.
-- The law `laid_out` says what it is by the format's own words.
use Rattle.std.specs.Prelude.{ℕ, zero, suc, ◌+◌, ◌-◌, List, [], ◌∷◌, ◌++◌, length, map, Result, Ok, Err}
use Rattle.acfg_wire.specs.declared.fault.Fault.{Fault}
use Rattle.acfg_wire.specs.declared.fault.WireFault.{WireFault}
use Rattle.acfg_wire.specs.declared.field.Field.{Field}
use Rattle.acfg_wire.specs.Fields.{WireField, field_of}
use Rattle.acfg_wire.specs.Reading.{field_at, fault_at}

-- a field, and the place of its key
abbrev pub LaidField : Type 0
LaidField = WireField × ℕ

-- fields in front of what comes of the bytes behind them
abbrev pub with_front : List LaidField → Result (List LaidField) WireFault → Result (List LaidField) WireFault
with_front front (Ok fields) = Ok (front ++ fields)
with_front front (Err fault) = Err fault

-- one field in front, or its fault, where these bytes of so many begin at a place
abbrev pub next_laid :
    (ℕ → List ℕ → Result (List LaidField) WireFault) → ℕ → ℕ → Result (WireField × List ℕ) Fault
    → Result (List LaidField) WireFault
next_laid onward place size (Err fault) = Err (fault_at fault place)
next_laid onward place size (Ok read) =
    with_front ((read.0, place) ∷ []) (onward (place + (size - length read.1)) read.1)

-- bytes that begin at this place, of at most so many fields
abbrev pub laid_within : ℕ → ℕ → List ℕ → Result (List LaidField) WireFault
laid_within more place [] = Ok []
laid_within zero place (b ∷ bs) = Ok []
laid_within (suc more) place (b ∷ bs) =
    next_laid (λ at rest. laid_within more at rest) place (length (b ∷ bs)) (field_at (b ∷ bs))

-- the fields of bytes, each with the place of its key, or the first fault
unfoldable pub laid : List ℕ → Result (List LaidField) WireFault
laid bytes = laid_within (length bytes) 0 bytes

-- a field as the code has it, with its place
abbrev pub laid_of : List Field → List LaidField
laid_of fields = map (λ f. (field_of f, f.place)) fields

-- fields without their places, and the places
abbrev pub fields_laid : List LaidField → List WireField
fields_laid fields = map (λ field. field.0) fields

abbrev pub places_laid : List LaidField → List ℕ
places_laid fields = map (λ field. field.1) fields

-- the outcome without places
abbrev pub outcome_laid : Result (List LaidField) WireFault → Result (List WireField) WireFault
outcome_laid (Ok fields) = Ok (fields_laid fields)
outcome_laid (Err fault) = Err fault
