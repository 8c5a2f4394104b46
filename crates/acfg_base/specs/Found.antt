-- What a search answers.
use Rattle.std.specs.Prelude.{Option, MatchOption}

-- what is found is such a value, and there is none where nothing is found
abbrev pub Finds : {A : Type 0} → (A → Type 0) → Option A → Type 0
Finds {A} P found = MatchOption found ((x : A) → P x → ⊥) P
