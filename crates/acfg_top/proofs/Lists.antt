-- Facts on lists that several proofs use.
use Rattle.std.proofs.Common.{ℕ, zero, suc, ◌<◌, Bool, List, [], ◌∷◌, length, map, arith}
use Rattle.std.specs.Prelude.{◌↔◌, All, IsTrue}
use Rattle.std.proofs.lemmas.List.Elements.{All-map}
use Rattle.std.proofs.lemmas.List.{length-map}

-- what holds of each item of a mapped list holds of each item as it is mapped, and back
pub All-unmap : {X Y : Type 0} (P : X → Type 0) (f : Y → X) (ys : List Y) → All P (map f ys) → All (λ y. P (f y)) ys
All-unmap P f [] all k d within = absurd (omega (arith, within))
All-unmap P f (y ∷ ys) all zero d within = all 0 (f d) (omega arith)
All-unmap P f (y ∷ ys) all (suc k) d within = All-unmap P f ys (λ j e low. all (suc j) e (omega (arith, low))) k d (omega (arith, within))

-- words that are some, and paths
pub path_words : {Y : Type 0} (P : List ℕ → Type 0) (f : Y → List ℕ) (ys : List Y) (r : Bool) → 0 < length ys → IsTrue r ↔ All (λ y. P (f y)) ys → IsTrue r ↔ ((0 < length (map f ys)) × All P (map f ys))
path_words P f ys r some all = (
  λ is. (let long = length-map ys f in omega (arith, long, some), All-map P f ys (all.0 is)),
  λ both. all.1 (All-unmap P f ys both.1),
)
