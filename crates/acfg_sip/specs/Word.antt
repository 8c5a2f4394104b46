-- A few bytes as a word. No public contract cites this.
use Rattle.std.specs.Prelude.{◌≡◌, ℕ, ◌<◌, List, length, slice_index}
use Rattle.std.specs.Int.{w64, from_le_bytes}

-- so many bytes are these, and the word is theirs, the first of them lowest
pub record IsWordOf (bytes : List ℕ) (count word : ℕ) : Type 0 where
  pub long : length bytes ≡ count
  pub bounded : (place : ℕ) → slice_index bytes place < 256
  pub value : word ≡ from_le_bytes w64 bytes
