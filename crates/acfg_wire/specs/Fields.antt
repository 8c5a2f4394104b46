-- Fields: Protocol Buffers, "Encoding", section "Message Structure".
use Rattle.std.specs.Prelude.{◌≡◌, ℕ, ◌+◌, ◌-◌, ◌*◌, ◌<◌, ◌≤◌, List, [], ◌∷◌, ◌++◌, length, map, take, drop}
use Rattle.std.specs.Prelude.{slice_index, slice_index_or, slice_get, slice_range, Some}
use Rattle.acfg_wire.specs.declared.field.Field.{Field}
use Rattle.acfg_wire.specs.declared.field.FieldValue.{FieldValue}
use Rattle.acfg_wire.specs.declared.field.FieldValue.TheVariants as rust
use Rattle.acfg_wire.specs.declared.field.TheConstants.{MAX_FIELD_NUMBER}
use Rattle.acfg_wire.specs.Varint.{IsVarint, shortest}

-- a value, by its wire type
pub data Value : Type 0 where
  varint : ℕ → Value
  eight : List ℕ → Value
  delimited : List ℕ → Value
  four : List ℕ → Value

-- a field, wherever it lies
pub record WireField : Type 0 where
  pub number : ℕ
  pub value : Value

-- the type that stands in the key
abbrev pub type_of : Value → ℕ
type_of (varint n) = 0
type_of (eight content) = 1
type_of (delimited content) = 2
type_of (four content) = 5

-- the bytes behind a key hold this value
abbrev pub Holds : List ℕ → Value → Type 0
Holds text (varint n) = IsVarint text n
Holds text (eight content) = (text ≡ content) × (length content ≡ 8)
Holds text (delimited content) = (len : List ℕ) × IsVarint len (length content) × (text ≡ len ++ content)
Holds text (four content) = (text ≡ content) × (length content ≡ 4)

-- the bytes are this one field: its key, and its value
pub record IsField (text : List ℕ) (f : WireField) : Type 0 where
  pub key : List ℕ
  pub behind : List ℕ
  pub parts : text ≡ key ++ behind
  pub keyed : IsVarint key (f.number * 8 + type_of f.value)
  pub numbered : 1 ≤ f.number
  pub holds : Holds behind f.value

-- the bytes are these fields joined
abbrev pub IsFields : List ℕ → List WireField → Type 0
IsFields bytes [] = bytes ≡ []
IsFields bytes (f ∷ fs) =
    (text : List ℕ) × ((rest : List ℕ) × (bytes ≡ text ++ rest) × IsField text f × IsFields rest fs)

-- Each field begins at its place: the bytes before it are the fields before it, and the bytes from there on are
-- the fields from there on.
pub record BeginAt (bytes : List ℕ) (fields : List WireField) (places : List ℕ) : Type 0 where
  pub each : length places ≡ length fields
  pub within : (i : ℕ) → i < length fields → slice_index places i < length bytes
  pub before : (i : ℕ) → i < length fields → IsFields (take (slice_index places i) bytes) (take i fields)
  pub onward : (i : ℕ) → i < length fields → IsFields (drop (slice_index places i) bytes) (drop i fields)

-- the bytes of a value that has bytes of its own
abbrev pub content_of : Value → List ℕ
content_of (varint n) = []
content_of (eight content) = content
content_of (delimited content) = content
content_of (four content) = content

-- where a field ends: where the next one begins, or where the bytes end
abbrev pub end_of : List ℕ → List ℕ → ℕ → ℕ
end_of bytes places i = slice_index_or places (i + 1) (length bytes)

-- from `place` to `end` a key stands first, and these bytes last
pub record LiesAtEnd (bytes : List ℕ) (place end : ℕ) (content : List ℕ) : Type 0 where
  pub behind : place + length content < end
  pub there : slice_range bytes (end - length content) end ≡ content

-- a value as the code has it, by what its slice holds
abbrev pub value_of : FieldValue → Value
value_of (rust.Varint n) = varint n
value_of (rust.Eight content) = eight content.now
value_of (rust.Bytes content) = delimited content.now
value_of (rust.Four content) = four content.now

-- a field as the code has it, without its place
abbrev pub field_of : Field → WireField
field_of f = record { number = f.number; value = value_of f.value }

abbrev pub fields_of : List Field → List WireField
fields_of fs = map field_of fs

abbrev pub places_of : List Field → List ℕ
places_of fs = map (λ f. f.place) fs

-- each field that was read from these bytes has its value's bytes there, as the last ones of the field
abbrev pub ValuesLieIn : List ℕ → List Field → Type 0
ValuesLieIn bytes read =
    (i : ℕ) (f : Field) → slice_get read i ≡ Some f
    → LiesAtEnd bytes f.place (end_of bytes (places_of read) i) (content_of (value_of f.value))

-- a number that a field may be written with
pub record IsFieldNumber (number : ℕ) : Type 0 where
  pub least : 1 ≤ number
  pub most : number ≤ MAX_FIELD_NUMBER

-- the one field of a number, with shortest varints
abbrev pub varint_field : ℕ → ℕ → List ℕ
varint_field number n = shortest (number * 8) ++ shortest n

-- the one field of bytes, with shortest varints
abbrev pub bytes_field : ℕ → List ℕ → List ℕ
bytes_field number content = shortest (number * 8 + 2) ++ (shortest (length content) ++ content)
