-- Words of private functions: the places of flags by their names.
use Rattle.std.specs.Prelude.{◌≡◌, ℕ, ◌<◌, List, [], ◌∷◌, ◌++◌, length, map, slice_index_or, Option, Some}
use Rattle.std.specs.Borrow.{Bor}
use Rattle.std.specs.HashMap.{HashMap, get_by}
use Rattle.std.specs.Str.{bytes_eq}
use Rattle.acfg_decls.specs.declared.flags.Flag.{Flag}
use Rattle.acfg_decls.specs.declared.declared.FlagValue.{FlagValue}
use Rattle.acfg_decls.specs.declared.declared.DeclaredFlag.{DeclaredFlag}
use Rattle.acfg_decls.specs.Compile.{flag_of, point_of}

abbrev pub names : List Flag → List (List ℕ)
names flags = map (λ flag. flag.name) flags

-- what a map has at these bytes
abbrev pub at : {S : Type 0} → HashMap (Bor (List ℕ)) ℕ S → List ℕ → Option ℕ
at places bytes = get_by (λ key. bytes_eq bytes key.now) places

-- The map finds each of these names at its place, and nothing else.
pub record Finds {S : Type 0} (places : HashMap (Bor (List ℕ)) ℕ S) (names : List (List ℕ)) : Type 0 where
  pub there : (i : ℕ) → i < length names → at places (slice_index_or names i []) ≡ Some i
  pub only : (bytes : List ℕ) (i : ℕ) → at places bytes ≡ Some i
      → (i < length names) × (slice_index_or names i [] ≡ bytes)

-- Wherever flags are those of some declarations and values of the package, this holds of these.
abbrev pub WhereMade : List ℕ → List Flag → (List ℕ → List (List ℕ × FlagValue) → List (List ℕ × DeclaredFlag) → Type 0)
    → Type 0
WhereMade «package» flags P =
    (container : List ℕ) (set : List (List ℕ × FlagValue)) (declared : List (List ℕ × DeclaredFlag))
    → flags ≡ map (flag_of «package» container set) declared → P container set declared

-- the flag with the point of a value behind its points
abbrev pub with_point : Flag → List ℕ × FlagValue → Flag
with_point flag value =
    record flag { enabled = value.1.enabled; writable = value.1.writable; trace = flag.trace ++ point_of value ∷ [] }
