-- The lines of a script, and what each of them is: a client's request, one that is too long, or no such line.
use Rattle.std.specs.Prelude.{◌≡◌, ℕ, ◌==◌, ◌<◌, ◌≤◌, List, [], ◌∷◌, ◌++◌, length, if◌then◌else◌}
use Rattle.std.specs.List.{flat_map, onto_first}
use Rattle.std.specs.Fmt.{decimal}
use Rattle.acfg_base.specs.Bytes.{backslash, line_feed, space}

-- the most bytes of a request
abbrev pub most_bytes : ℕ
most_bytes = 4096

-- the lines of a script: each ends at a line feed, and what stands behind the last line feed counts where it isn't
-- empty
abbrev pub lines : List ℕ → List (List ℕ)
lines [] = []
lines (byte ∷ bytes) = if byte == line_feed then [] ∷ lines bytes else onto_first byte (lines bytes)

-- lines joined, each with a line feed behind it
abbrev pub joined : List (List ℕ) → List ℕ
joined = flat_map (λ line. line ++ line_feed ∷ [])

abbrev pub EndsIn : List ℕ → ℕ → Type 0
EndsIn text byte = (front : List ℕ) × (text ≡ front ++ byte ∷ [])

-- A good line `K PIECE`: the client's number 0 to 255 in decimal without leading zeros, one space, and any bytes that
-- don't end in a backslash.
pub record IsGood (line : List ℕ) (client : ℕ) (piece : List ℕ) : Type 0 where
  pub bound : client < 256
  pub spelled : line ≡ decimal client ++ space ∷ piece
  pub whole : ¬ EndsIn piece backslash

-- what a line gives
pub data Event : Type 0 where
  -- a client's request is complete, and this is its text
  Complete : ℕ → List ℕ → Event
  -- a client's request is over its most bytes
  TooLong : ℕ → Event
  -- the line of this number is no good line
  BadLine : ℕ → Event

-- what the line of a number gives: each good line completes its request
abbrev pub IsEvent : ℕ → List ℕ → Event → Type 0
IsEvent number line (Complete client text) = IsGood line client text × (length text ≤ most_bytes)
IsEvent number line (TooLong client) = (piece : List ℕ) × IsGood line client piece × (most_bytes < length piece)
IsEvent number line (BadLine bad) = (bad ≡ number) × ((client : ℕ) (piece : List ℕ) → IsGood line client piece → ⊥)
