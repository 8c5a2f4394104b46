-- UTF-8 is bytes.
use Rattle.std.proofs.Common.{◌≡◌, ℕ, ◌+◌, ◌<◌, ◌/◌, Bool, true, false, List, [], ◌∷◌, ◌++◌, refl, subst, arith, cond, inl, inr}
use Rattle.std.specs.Prelude.{◌&&◌}
use Rattle.std.specs.List.{AllByRecursion}
use Rattle.std.specs.Str.{is_utf8, IsUtf8}
use Rattle.std.proofs.Math.Utf8.{scalar, scalars, encode, encodes, next, scalar_cases}
use Rattle.std.proofs.Math.Dec.{ltb}
use Rattle.std.proofs.lemmas.Bool.Decides.{nat_tests}
use Rattle.std.proofs.lemmas.Str.{IsUtf8-from_is_utf8}

abbrev pub AreBytes : List ℕ → Type 0
AreBytes bytes = AllByRecursion (λ b. b < 256) bytes

next_small : (n : ℕ) → next n < 256
next_small n = omega arith

encode_small : (c : ℕ) → c < 1114112 → AreBytes (encode c)
unfolding encode
encode_small c h = go (ltb c 128) refl (ltb c 2048) refl (ltb c 65536) refl
  where
    go : (x : Bool) → ltb c 128 ≡ x → (y : Bool) → ltb c 2048 ≡ y → (z : Bool) → ltb c 65536 ≡ z
        → AreBytes (cond x (c ∷ []) (cond y ((192 + c / 64) ∷ next c ∷ []) (cond z ((224 + c / 4096) ∷ next (c / 64) ∷ next c ∷ []) ((240 + c / 262144) ∷ next (c / 4096) ∷ next (c / 64) ∷ next c ∷ []))))
    go true e y f z g = (grind (arith, nat_tests), tt)
    go false e true f z g = (let b : c < 2048 = grind (arith, nat_tests) in omega arith, (next_small c, tt))
    go false e false f true g = (let b : c < 65536 = grind (arith, nat_tests) in omega arith, (next_small (c / 64), (next_small c, tt)))
    go false e false f false g = (omega arith, (next_small (c / 4096), (next_small (c / 64), (next_small c, tt))))

joined : (a b : List ℕ) → AreBytes a → AreBytes b → AreBytes (a ++ b)
joined [] b x y = y
joined (c ∷ a) b x y = (x.0, joined a b x.1 y)

scalar_small : (c : ℕ) → scalar c ≡ true → c < 1114112
scalar_small c e = elim (scalar_cases c e) [ inl h ↦ omega arith | inr h ↦ omega (arith, h.1) ]

encodes_small : (cs : List ℕ) → scalars cs ≡ true → AreBytes (encodes cs)
encodes_small [] e = tt
encodes_small (c ∷ cs) e = joined (encode c) (encodes cs) (encode_small c (scalar_small c (first (scalar c) (scalars cs) e))) (encodes_small cs (second (scalar c) (scalars cs) e))
  where
    first : (x y : Bool) → (x && y) ≡ true → x ≡ true
    first true y e = refl
    first false y e = cc

    second : (x y : Bool) → (x && y) ≡ true → y ≡ true
    second true y e = e
    second false y e = cc

pub utf8_bytes : (bytes : List ℕ) → is_utf8 bytes ≡ true → AreBytes bytes
utf8_bytes bytes e = let u : IsUtf8 bytes = IsUtf8-from_is_utf8 bytes e in subst AreBytes u.1.1 (encodes_small u.0 u.1.0)
