-- Words of private functions: numbers of which only the small ones are told apart.
use Rattle.std.specs.Prelude.{◌≡◌, ◌⊎◌, ℕ, ◌≤◌, Option, Some}

-- the same number, or both are more than an enum has
abbrev pub Agree : ℕ → ℕ → Type 0
Agree number about = (number ≡ about) ⊎ ((3 ≤ number) × (3 ≤ about))

-- there is a number, and this is it or both are large
abbrev pub IsAbout : Option ℕ → ℕ → Type 0
IsAbout found about = (number : ℕ) × (found ≡ Some number) × Agree number about
