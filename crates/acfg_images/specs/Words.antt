-- Words on lists and numbers that the definitions share.
use Rattle.std.specs.Prelude.{◌≡◌, ℕ, zero, suc, ◌<◌, List, length, count_by, ◌==◌, Bool, Option, Some, None}
use Rattle.std.specs.Prelude.{if◌then◌else◌}

-- the first number that passes, of so many from this one on
abbrev pub least : (ℕ → Bool) → ℕ → ℕ → Option ℕ
least passes from zero = None
least passes from (suc more) = if passes from then Some from else least passes (suc from) more

-- the numbers are 0 to one less than their count, each once
abbrev pub AreNumbered : List ℕ → Type 0
AreNumbered ns = (k : ℕ) → k < length ns → count_by (λ n. n == k) ns ≡ 1
