-- The fields of a message, each with the place in the whole cache at which its content begins.
use Rattle.std.specs.Prelude.{ℕ, ◌+◌, ◌-◌, List, [], ◌∷◌, length, Result, Ok, Err}
use Rattle.acfg_wire.specs.declared.fault.WireFault.{WireFault}
use Rattle.acfg_wire.specs.Fields.{Value, content_of}
use Rattle.acfg_wire.specs.Outcome.{moved}
use Rattle.acfg_wire.specs.Laid.{LaidField, laid}

-- a field, and the place at which its bytes begin where it has bytes of its own
pub record Part : Type 0 where
  pub number : ℕ
  pub value : Value
  pub begins : ℕ

-- where a field ends, in a message of so many bytes: where the next one begins, or where the message ends
abbrev pub end_before : ℕ → List LaidField → ℕ
end_before total [] = total
end_before total (next ∷ rest) = next.1

-- The fields of a message that begins at this place of the cache and has so many bytes. The content of a field is its
-- last part.
abbrev pub parts_in : ℕ → ℕ → List LaidField → List Part
parts_in at total [] = []
parts_in at total (field ∷ rest) =
    record {
      number = field.0.number;
      value = field.0.value;
      begins = at + (end_before total rest - length (content_of field.0.value));
    } ∷ parts_in at total rest

abbrev pub opened_as : ℕ → ℕ → Result (List LaidField) WireFault → Result (List Part) WireFault
opened_as at total (Ok fields) = Ok (parts_in at total fields)
opened_as at total (Err fault) = Err (moved at fault)

-- what the bytes of a message are that begins at this place of the cache: its fields, or its first wire fault
unfoldable pub opened : ℕ → List ℕ → Result (List Part) WireFault
opened at bytes = opened_as at (length bytes) (laid bytes)

-- the fields of a message that has no wire fault
abbrev pub parts_of : Result (List Part) WireFault → List Part
parts_of (Ok parts) = parts
parts_of (Err fault) = []
