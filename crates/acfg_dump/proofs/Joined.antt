-- Texts joined by a byte: the first one, and each other with the byte in front.
use Rattle.std.proofs.Common.{◌≡◌, ℕ, ◌+◌, ◌<◌, Bool, true, false, if◌then◌else◌, List, [], ◌∷◌, ◌++◌, length, get_or, take, drop, map, filter, append_assoc, refl, sym, ap, ◌∙◌, arith}
use Rattle.std.specs.List.{flat_map, join_with_byte}
use Rattle.std.proofs.lemmas.List.{append-nil, take_more}
use Rattle.std.proofs.lemmas.Grind.{flat_map-append}

join_rest : {X : Type 0} (f : X → List ℕ) (c : ℕ) (x : X) (xs : List X) → join_with_byte c (map f (x ∷ xs)) ≡ f x ++ flat_map (λ y. c ∷ f y) xs
join_rest f c x [] = sym (append-nil (f x))
join_rest f c x (y ∷ ys) = ap (λ t. f x ++ (c ∷ t)) (join_rest f c y ys)

pub join_mapped : {X : Type 0} (f : X → List ℕ) (c : ℕ) (xs : List X) (x : X) → 0 < length xs → x ≡ get_or xs 0 x
    → join_with_byte c (map f xs) ≡ f x ++ flat_map (λ y. c ∷ f y) (drop 1 xs)
join_mapped f c [] x some first = absurd (omega arith)
join_mapped f c (y ∷ ys) x some first = join_rest f c y ys ∙ ap (λ z. f z ++ flat_map (λ y. c ∷ f y) ys) (sym first)

map_same : (xs : List (List ℕ)) → map (λ x. x) xs ≡ xs
map_same [] = refl
map_same (x ∷ xs) = ap (λ t. x ∷ t) (map_same xs)

-- what is put behind a text: the first one, and the others with the byte in front
pub put_joined : {X : Type 0} (f : X → List ℕ) (c : ℕ) (xs others : List X) (x : X) (old mid new : List ℕ) → 0 < length xs → x ≡ get_or xs 0 x → others ≡ drop 1 xs
    → mid ≡ old ++ f x → new ≡ mid ++ flat_map (λ y. c ∷ f y) others → new ≡ old ++ join_with_byte c (map f xs)
put_joined f c xs others x old mid new some first rest put all =
    all
    ∙ (λ j. put j ++ flat_map (λ y. c ∷ f y) (rest j))
    ∙ append_assoc old (f x) (flat_map (λ y. c ∷ f y) (drop 1 xs))
    ∙ ap (λ t. old ++ t) (sym (join_mapped f c xs x some first))

pub put_texts : (c : ℕ) (xs others : List (List ℕ)) (x old mid new : List ℕ) → 0 < length xs → x ≡ get_or xs 0 x → others ≡ drop 1 xs
    → mid ≡ old ++ x → new ≡ mid ++ flat_map (λ y. c ∷ y) others → new ≡ old ++ join_with_byte c xs
put_texts c xs others x old mid new some first rest put all =
    put_joined (λ y. y) c xs others x old mid new some first rest put all ∙ ap (λ t. old ++ join_with_byte c t) (map_same xs)

passed : {X : Type 0} (f : X → List ℕ) (x : X) (made : List ℕ) (xs : List X) (b : Bool) → made ≡ flat_map f xs
    → (if b then f x else []) ++ made ≡ flat_map f (if b then x ∷ xs else xs)
passed f x made xs true same = ap (λ t. f x ++ t) same
passed f x made xs false same = same

-- the elements that pass a test, each made a text, are all of them, each made a text or nothing
pub flat_map_filter : {X : Type 0} (f : X → List ℕ) (p : X → Bool) (xs : List X) → flat_map (λ x. if p x then f x else []) xs ≡ flat_map f (filter p xs)
flat_map_filter f p [] = refl
flat_map_filter f p (x ∷ xs) = passed f x (flat_map (λ y. if p y then f y else []) xs) (filter p xs) (p x) (flat_map_filter f p xs)

-- one more element of a list, made a text
pub flat_map_step : {X : Type 0} (f : X → List ℕ) (xs : List X) (i : ℕ) (x : X) (old new : List ℕ) → i < length xs → x ≡ get_or xs i x
    → old ≡ flat_map f (take i xs) → new ≡ old ++ f x → new ≡ flat_map f (take (i + 1) xs)
flat_map_step f xs i x old new within is before put =
    put
    ∙ (λ j. before j ++ f (is j))
    ∙ ap (λ t. flat_map f (take i xs) ++ t) (sym (append-nil (f (get_or xs i x))))
    ∙ sym (flat_map-append f (take i xs) (get_or xs i x ∷ []))
    ∙ ap (flat_map f) (sym (take_more xs i x within))
