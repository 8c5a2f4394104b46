-- The last of the items that count, looked for from the end.
use Rattle.std.proofs.Common.{◌≡◌, ℕ, ◌+◌, ◌<◌, List, [], ◌∷◌, ◌++◌, length, map, filter_map, take, get_or, Option, None, Some, refl, ◌∙◌, ap}
use Rattle.std.proofs.lemmas.List.{append-nil, map-append, take_more}
use Rattle.std.proofs.lemmas.List.Elements.{filter_map-append}
use Rattle.std.specs.List.{cons_option, last_or}

last_pushed : {Y : Type 0} (o : Option Y) (ys : List Y) (y : Y) → last_or o (ys ++ y ∷ []) ≡ Some y
last_pushed o [] y = refl
last_pushed o (z ∷ ys) y = last_pushed (Some z) ys y

module _ {X Y Z : Type 0} (at : Y → Option Z) (read : X → Y) (o : Option Z) (xs : List X) (i : ℕ) (d : X) (within : i < length xs) where
  counted : filter_map at (map read (take (i + 1) xs)) ≡ filter_map at (map read (take i xs)) ++ cons_option (at (read (get_or xs i d))) []
  counted = ap (λ ys. filter_map at (map read ys)) (take_more xs i d within)
      ∙ ap (filter_map at) (map-append read (take i xs) (get_or xs i d ∷ []))
      ∙ filter_map-append at (map read (take i xs)) (read (get_or xs i d) ∷ [])

  -- an item that counts is the last of those up to it
  pub last_here : (z : Z) → at (read (get_or xs i d)) ≡ Some z → last_or o (filter_map at (map read (take (i + 1) xs))) ≡ Some z
  last_here z is = ap (last_or o) (counted ∙ ap (λ found. filter_map at (map read (take i xs)) ++ cons_option found []) is) ∙ last_pushed o (filter_map at (map read (take i xs))) z

  -- behind one that doesn't, those before it decide
  pub last_before : at (read (get_or xs i d)) ≡ None → last_or o (filter_map at (map read (take (i + 1) xs))) ≡ last_or o (filter_map at (map read (take i xs)))
  last_before is = ap (last_or o) (counted ∙ ap (λ found. filter_map at (map read (take i xs)) ++ cons_option found []) is ∙ append-nil (filter_map at (map read (take i xs))))
