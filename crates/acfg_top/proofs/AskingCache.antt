-- What `create-cache` and words behind it can ask for.
use Rattle.std.proofs.Common.{◌≡◌, ℕ, Bool, true, false, List, [], ◌∷◌, codes, sym, ap, subst}
use Rattle.std.specs.Str.{bytes_eq}
use Rattle.acfg_top.specs.Words.{ArePathWords, Asks, Command, Flags, Rehearse, Replay, Query, Dump, CreateCache, CreateStorage, CreateAll}

is_cached : List (List ℕ) → Bool
is_cached [] = false
is_cached (name ∷ rest) = bytes_eq name (codes "create-cache")

-- the words behind the command's name, a package, a container and a cache
behind : List (List ℕ) → List (List ℕ)
behind (name ∷ «package» ∷ container ∷ out ∷ files) = files
behind _ = []

-- they ask for nothing where the last of them aren't paths
pub no_files : («package» container out : List ℕ) (files : List (List ℕ)) → (ArePathWords files → ⊥) → (asked : Command) → Asks (codes "create-cache" ∷ «package» ∷ container ∷ out ∷ files) asked → ⊥
unfolding is_cached behind
no_files «package» container out files none (Flags file) asks = let no : true ≡ false = ap is_cached asks.0 in cc
no_files «package» container out files none (Rehearse script) asks = let no : true ≡ false = ap is_cached asks.0 in cc
no_files «package» container out files none (Replay script dir) asks = let no : true ≡ false = ap is_cached asks.0 in cc
no_files «package» container out files none (Query dir name flag) asks = let no : true ≡ false = ap is_cached asks.0 in cc
no_files «package» container out files none (Dump format filter more) asks = let no : true ≡ false = ap is_cached asks.0 in cc
no_files «package» container out files none (CreateCache name of at more) asks = none (subst ArePathWords (sym (ap behind asks.0)) asks.4)
no_files «package» container out files none (CreateStorage of dir caches) asks = let no : true ≡ false = ap is_cached asks.0 in cc
no_files «package» container out files none (CreateAll list) asks = let no : true ≡ false = ap is_cached asks.0 in cc
