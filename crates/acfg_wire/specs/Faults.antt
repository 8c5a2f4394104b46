-- What is wrong with bytes that are no fields, and where. The encoding guide names no faults: these three, and that
-- within a field the key comes first, then its type and number, then the value, are the rule of this project.
use Rattle.std.specs.Prelude.{◌≡◌, ℕ, ◌+◌, ◌*◌, ◌<◌, ◌≤◌, ◌⊎◌, List, ◌++◌, length, take, drop}
use Rattle.acfg_wire.specs.Varint.{IsVarint, EndsWithinVarint, IsLongVarint}
use Rattle.acfg_wire.specs.Fields.{WireField, IsFields}

-- the bytes begin with a whole key of this type and some number from 1 up, and behind it are these
pub record HasKey (bytes : List ℕ) (type : ℕ) (behind : List ℕ) : Type 0 where
  pub key : List ℕ
  pub number : ℕ
  pub parts : bytes ≡ key ++ behind
  pub keyed : IsVarint key (number * 8 + type)
  pub numbered : 1 ≤ number

-- the bytes begin with a whole length, and fewer bytes are behind it
pub record IsTooShort (bytes : List ℕ) : Type 0 where
  pub len : List ℕ
  pub content : List ℕ
  pub size : ℕ
  pub parts : bytes ≡ len ++ content
  pub sized : IsVarint len size
  pub fewer : length content < size

-- the field that begins here isn't whole in the bytes
pub data IsTruncated (bytes : List ℕ) : Type 0 where
  in_key : EndsWithinVarint bytes → IsTruncated bytes
  in_varint : (behind : List ℕ) → HasKey bytes 0 behind → EndsWithinVarint behind → IsTruncated bytes
  in_eight : (behind : List ℕ) → HasKey bytes 1 behind → length behind < 8 → IsTruncated bytes
  in_length : (behind : List ℕ) → HasKey bytes 2 behind → EndsWithinVarint behind → IsTruncated bytes
  in_bytes : (behind : List ℕ) → HasKey bytes 2 behind → IsTooShort behind → IsTruncated bytes
  in_four : (behind : List ℕ) → HasKey bytes 5 behind → length behind < 4 → IsTruncated bytes

-- a varint of the field that begins here is too long
pub data HasLongVarint (bytes : List ℕ) : Type 0 where
  as_key : IsLongVarint bytes → HasLongVarint bytes
  as_varint : (behind : List ℕ) → HasKey bytes 0 behind → IsLongVarint behind → HasLongVarint bytes
  as_length : (behind : List ℕ) → HasKey bytes 2 behind → IsLongVarint behind → HasLongVarint bytes

-- a type that has no values here: a group's start or end, or none of the format
abbrev pub IsBadTypeNumber : ℕ → Type 0
IsBadTypeNumber type = (type ≡ 3) ⊎ (type ≡ 4) ⊎ (type ≡ 6) ⊎ (type ≡ 7)

-- the key of the field that begins here is whole, and its type or its number is refused
pub record HasBadType (bytes : List ℕ) : Type 0 where
  pub key : List ℕ
  pub behind : List ℕ
  pub number : ℕ
  pub type : ℕ
  pub parts : bytes ≡ key ++ behind
  pub keyed : IsVarint key (number * 8 + type)
  pub below : type < 8
  pub refused : (number ≡ 0) ⊎ IsBadTypeNumber type

-- The first fault is at this place: the bytes before it are whole fields, and what begins there, a byte of it at
-- least, is at fault in this way.
pub record IsFirstFault (IsFault : List ℕ → Type 0) (bytes : List ℕ) (place : ℕ) : Type 0 where
  pub fields : List WireField
  pub before : IsFields (take place bytes) fields
  pub within : place < length bytes
  pub fault : IsFault (drop place bytes)
