-- Varints: Protocol Buffers, "Encoding", section "Base 128 Varints".
use Rattle.std.specs.Prelude.{◌≡◌, ℕ, zero, suc, ◌+◌, ◌*◌, ◌/◌, ◌%◌, ◌^◌, ◌<◌, ◌≤◌, ◌⊎◌, List, [], ◌∷◌, length}
use Rattle.std.specs.Prelude.{slice_index, nat_lt, if◌then◌else◌}

-- A byte below 128 is the last, and stands for itself. One from 128 on has the low seven bits, and the bytes
-- behind it stand for the rest. So a number has many spellings: 0 is 00, and 80 00, and so on.
abbrev pub IsSpelling : List ℕ → ℕ → Type 0
IsSpelling [] n = ⊥
IsSpelling (b ∷ bs) n =
    ((b < 128) × (bs ≡ []) × (n ≡ b))
    ⊎ ((128 ≤ b) × (b < 256) × ((high : ℕ) × (n + 128 ≡ b + 128 * high) × IsSpelling bs high))

-- a varint of the wire format: a spelling of up to ten bytes of a number of 64 bits
pub record IsVarint (bytes : List ℕ) (n : ℕ) : Type 0 where
  pub spells : IsSpelling bytes n
  pub short : length bytes ≤ 10
  pub fits : n < 2 ^ 64

-- the bytes end before the varint does: each of them says that another one follows
pub record EndsWithinVarint (bytes : List ℕ) : Type 0 where
  pub short : length bytes < 10
  pub goes_on : (i : ℕ) → i < length bytes → 128 ≤ slice_index bytes i

-- the tenth byte is there and is over 1, so that there are more than ten bytes or more than 64 bits
pub record IsLongVarint (bytes : List ℕ) : Type 0 where
  pub goes_on : (i : ℕ) → i < 9 → 128 ≤ slice_index bytes i
  pub over : 1 < slice_index bytes 9

-- the shortest spelling of a number, with at most this many bytes before the last
abbrev pub shortest_within : ℕ → ℕ → List ℕ
shortest_within zero n = n ∷ []
shortest_within (suc more) n = if nat_lt n 128 then n ∷ [] else (128 + n % 128) ∷ shortest_within more (n / 128)

-- the shortest spelling of a number of 64 bits
unfoldable pub shortest : ℕ → List ℕ
shortest n = shortest_within 9 n
