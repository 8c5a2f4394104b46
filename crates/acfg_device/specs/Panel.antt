-- What a panel's clauses speak of: its files, a count that rose, words said in part.
use Rattle.std.specs.Prelude.{◌≡◌, ℕ, ◌-◌, ◌^◌, ◌≤◌, ◌++◌, List, Option}

-- the bytes under each name, where there are any
abbrev pub Files : Type 0
Files = List ℕ → Option (List ℕ)

-- the last number of 64 bits, at which a count of faults stands still
abbrev pub last_count : ℕ
last_count = 2 ^ 64 - 1

-- A count rose in a call: it is greater after it, or had come to its last number before it.
abbrev pub Rose : ℕ → ℕ → Type 0
Rose before after = after ≤ before → last_count ≤ before

-- the words said grew by the first few of these bytes
abbrev pub SaysPart : List ℕ → List ℕ → List ℕ → Type 0
SaysPart before after bytes = (part rest : List ℕ) × (bytes ≡ part ++ rest) × (after ≡ before ++ part)
