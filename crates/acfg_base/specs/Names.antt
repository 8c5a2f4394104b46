-- The names of AOSP aconfig's declarations: flags, namespaces, packages and containers, each by all positions of its
-- text.
use Rattle.std.specs.Prelude.{◌≡◌, ◌≢◌, ℕ, ◌+◌, ◌≤◌, ◌⊎◌, List, length, slice_index, EachIndex, Contains}

-- `.` and `_`
abbrev pub dot : ℕ
dot = 46

abbrev pub underscore : ℕ
underscore = 95

-- `a` to `z`
abbrev pub IsLetter : ℕ → Type 0
IsLetter byte = (97 ≤ byte) × (byte ≤ 122)

-- `0` to `9`
abbrev pub IsDigit : ℕ → Type 0
IsDigit byte = (48 ≤ byte) × (byte ≤ 57)

-- `a` to `z`, `0` to `9` and `_`
abbrev pub IsNameByte : ℕ → Type 0
IsNameByte byte = IsLetter byte ⊎ IsDigit byte ⊎ (byte ≡ underscore)

-- One or more names, `[a-z][a-z0-9_]*` without `__`, joined by dots. Behind a text's end `slice_index` gives 0, which
-- is no letter.
pub record AreNames (text : List ℕ) : Type 0 where
  pub begins : IsLetter (slice_index text 0)
  pub bytes : EachIndex text (λ i. IsNameByte (slice_index text i) ⊎ (slice_index text i ≡ dot))
  pub behind_dot : EachIndex text (λ i. slice_index text i ≡ dot → IsLetter (slice_index text (i + 1)))
  pub behind_underscore : EachIndex text (λ i. slice_index text i ≡ underscore → slice_index text (i + 1) ≢ underscore)

-- a flag or a namespace: one name, of at most 255 bytes
pub record IsName (text : List ℕ) : Type 0 where
  pub bound : length text ≤ 255
  pub names : AreNames text
  pub one : ¬ Contains text dot

-- two or more names, of at most 255 bytes
pub record IsPackage (text : List ℕ) : Type 0 where
  pub bound : length text ≤ 255
  pub names : AreNames text
  pub more : Contains text dot

-- one or more names, of at most 100 bytes
pub record IsContainer (text : List ℕ) : Type 0 where
  pub bound : length text ≤ 100
  pub names : AreNames text
