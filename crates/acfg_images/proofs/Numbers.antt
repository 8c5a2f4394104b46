-- Buckets read one after another.
use Rattle.std.proofs.Common.{◌≡◌, ℕ, zero, suc, ◌+◌, ◌*◌, List, [], ◌∷◌, ◌++◌, drop, refl, sym, ap, ◌∙◌, arith, add-one}
use Rattle.std.proofs.lemmas.List.{drop-drop}
use Rattle.acfg_views.specs.Fields.{number_of, numbers}
use Rattle.acfg_views.specs.Reading.{OpenMap, bucket_in}

numbers-push : (k : ℕ) (bytes : List ℕ) → numbers (suc k) bytes ≡ numbers k bytes ++ number_of 4 (drop (4 * k) bytes) ∷ []
numbers-push zero bytes = refl
numbers-push (suc k) bytes =
    let e : 4 * suc k ≡ 4 + 4 * k = omega arith in
    let place : drop (4 * k) (drop 4 bytes) ≡ drop (4 * suc k) bytes = drop-drop (4 * k) 4 bytes ∙ ap (λ (n : ℕ). drop n bytes) (sym e) in
    ap (λ (ns : List ℕ). number_of 4 bytes ∷ ns) (numbers-push k (drop 4 bytes) ∙ ap (λ (b : List ℕ). numbers k (drop 4 bytes) ++ number_of 4 b ∷ []) place)

pub bucket_next : (map : OpenMap) (b : ℕ) (made after : List ℕ) (bucket : ℕ) → made ≡ numbers b (drop map.first_bucket map.file) → bucket ≡ bucket_in map b → after ≡ made ++ bucket ∷ []
    → after ≡ numbers (b + 1) (drop map.first_bucket map.file)
bucket_next map b made after bucket made_is bucket_is after_is =
    let place : bucket ≡ number_of 4 (drop (4 * b) (drop map.first_bucket map.file)) = bucket_is ∙ ap (number_of 4) (sym (drop-drop (4 * b) map.first_bucket map.file)) in
    rw add-one (after_is ∙ rw (made_is, place) (sym (numbers-push b (drop map.first_bucket map.file))))
