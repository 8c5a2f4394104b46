-- A list whose last part is changed already, one step further to the front.
use Rattle.std.proofs.Common.{◌≡◌, ℕ, zero, suc, ◌<◌, List, [], ◌∷◌, ◌++◌, map, length, get_or, set, take, drop, refl, ap, arith}

module _ {X : Type 0} (f : X → X) where
  pub set_back : (xs : List X) (m : ℕ) (d : X) → m < length xs → set (take (suc m) xs ++ map f (drop (suc m) xs)) m (f (get_or xs m d)) ≡ take m xs ++ map f (drop m xs)
  set_back [] m d within = absurd (omega arith)
  set_back (x ∷ xs) zero d within = refl
  set_back (x ∷ xs) (suc m) d within = ap (λ rest. x ∷ rest) (set_back xs m d (omega arith))

  pub get_back : (xs ys : List X) (m : ℕ) (d : X) → m < length xs → get_or (take (suc m) xs ++ ys) m d ≡ get_or xs m d
  get_back [] ys m d within = absurd (omega arith)
  get_back (x ∷ xs) ys zero d within = refl
  get_back (x ∷ xs) ys (suc m) d within = get_back xs ys m d (omega arith)

pub take-map-take : {X Y : Type 0} (g : X → Y) (xs : List X) (m : ℕ) → take m (map g (take (suc m) xs)) ≡ map g (take m xs)
take-map-take g [] zero = refl
take-map-take g [] (suc m) = refl
take-map-take g (x ∷ xs) zero = refl
take-map-take g (x ∷ xs) (suc m) = ap (λ rest. g x ∷ rest) (take-map-take g xs m)
