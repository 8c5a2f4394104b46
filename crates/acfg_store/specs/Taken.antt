-- Private: what readers take from the front of bytes. No public clause cites it.
use Rattle.std.specs.Prelude.{◌≡◌, ℕ, List, ◌++◌, length, Option, MatchOption, All}
use Rattle.std.specs.List.{flat_map}

-- the lawful value that stands at the front of the bytes, and what is behind it; and none exactly where no lawful value
-- stands there
abbrev pub Takes : {X : Type 0} → (X → List ℕ) → (X → Type 0) → List ℕ → Option (X × List ℕ) → Type 0
Takes {X} spelled IsLawful bytes taken =
    MatchOption taken ((x : X) (rest : List ℕ) → IsLawful x → bytes ≡ spelled x ++ rest → ⊥)
    (λ t. IsLawful t.0 × (bytes ≡ spelled t.0 ++ t.1))

-- of two values at the front that are one text, with what is behind them, each is the other
pub record IsPrefix {X : Type 0} (spelled : X → List ℕ) (IsLawful : X → Type 0) : Type 0 where
  pub one : (x y : X) (a b : List ℕ) → IsLawful x → IsLawful y → spelled x ++ a ≡ spelled y ++ b → (x ≡ y) × (a ≡ b)

-- the bytes are so many lawful rows, one after another
pub record AreRows {X : Type 0} (spelled : X → List ℕ) (IsLawful : X → Type 0) (count : ℕ) (bytes : List ℕ)
    (rows : List X) : Type 0 where
  pub many : length rows ≡ count
  pub each : All IsLawful rows
  pub are : bytes ≡ flat_map spelled rows
