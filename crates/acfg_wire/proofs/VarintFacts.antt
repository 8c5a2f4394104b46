-- Varints as relations and as what is read: each says the other.
use Rattle.std.proofs.Common.{◌≡◌, ℕ, zero, suc, ◌+◌, ◌-◌, ◌*◌, ◌^◌, ◌<◌, ◌≤◌, ◌⊎◌, Bool, true, false, cond, ltb, List, [], ◌∷◌, ◌++◌, length, get_or, Result, Ok, Err, refl, sym, ap, subst, arith, inl, inr}
use Rattle.std.proofs.lemmas.Bool.{ltb-false, ltb-true}
use Rattle.std.proofs.lemmas.Nat.{pow-add, pow_pos}
use Rattle.acfg_wire.specs.declared.fault.Fault.{Fault}
use Rattle.acfg_wire.specs.declared.fault.Fault.TheVariants.{Truncated, LongVarint, BadType}
use Rattle.acfg_wire.specs.Varint.{IsSpelling, IsVarint, EndsWithinVarint, IsLongVarint}
use Rattle.acfg_wire.specs.Reading.{◌>>=◌, varint_within, varint_at}
use Rattle.acfg_wire.proofs.VarintLoop.{last_byte, next_byte, over_byte}

abbrev pub AreBytes : List ℕ → Type 0
AreBytes bytes = (i : ℕ) → get_or bytes i 0 < 256

-- seven bits more
wider : (m : ℕ) → 2 ^ (7 * suc m + 1) ≡ 2 ^ (7 * m + 1) * 128
wider m = let e : 7 * suc m + 1 ≡ (7 * m + 1) + 7 = omega arith in rw e (pow-add 2 (7 * m + 1) 7)

-- ---- what is spelled is read

spelled_again : (more : ℕ) (text rest : List ℕ) (n : ℕ) → IsSpelling text n → length text ≤ more + 1 → n < 2 ^ (7 * more + 1) → varint_within more (text ++ rest) ≡ Ok (n, rest)
spelled_again more [] rest n h short fits = absurd h
spelled_again more (b ∷ bs) rest n (inl (below, nil, is)) short fits =
    let bit : more ≡ 0 → b ≤ 1 = λ (e : more ≡ 0). one_bit e in
    subst (λ (w : List ℕ). varint_within more (b ∷ (w ++ rest)) ≡ Ok (n, rest)) (sym nil) (rw is (last_byte more b rest below bit))
  where
    one_bit : more ≡ 0 → b ≤ 1
    one_bit e = let two = rw e at fits in omega arith
spelled_again zero (b ∷ []) rest n (inr (above, byte, (high, e, s))) short fits = absurd s
spelled_again zero (b ∷ c ∷ bs) rest n (inr h) short fits = absurd (omega arith)
spelled_again (suc more) (b ∷ bs) rest n (inr (above, byte, (high, e, s))) short fits =
    let fits' : high < 2 ^ (7 * more + 1) = omega (arith, wider more) in
    let is : b - 128 + 128 * high ≡ n = omega arith in
    rw (next_byte more b (bs ++ rest) above, spelled_again more bs rest high s (omega arith) fits', is) refl

pub varint_again : (text rest : List ℕ) (n : ℕ) → IsVarint text n → varint_at (text ++ rest) ≡ Ok (n, rest)
unfolding varint_at
varint_again text rest n h = spelled_again 9 text rest n h.spells h.short h.fits

cut_again : (more : ℕ) (bytes : List ℕ) → length bytes ≤ more → ((i : ℕ) → i < length bytes → 128 ≤ get_or bytes i 0) → varint_within more bytes ≡ Err Truncated
cut_again more [] short above = refl
cut_again zero (b ∷ bs) short above = absurd (omega arith)
cut_again (suc more) (b ∷ bs) short above =
    let first : 128 ≤ b = above 0 (omega arith) in
    let rest = cut_again more bs (omega arith) (λ (i : ℕ) (h : i < length bs). above (suc i) (omega arith)) in
    rw (next_byte more b bs first, rest) refl

pub ends_again : (bytes : List ℕ) → EndsWithinVarint bytes → varint_at bytes ≡ Err Truncated
unfolding varint_at
ends_again bytes h = cut_again 9 bytes (omega arith) h.goes_on

over_again : (more : ℕ) (bytes : List ℕ) → ((i : ℕ) → i < more → 128 ≤ get_or bytes i 0) → 1 < get_or bytes more 0 → varint_within more bytes ≡ Err LongVarint
over_again more [] above over = absurd (omega arith)
over_again zero (b ∷ bs) above over = over_byte b bs over
over_again (suc more) (b ∷ bs) above over =
    let first : 128 ≤ b = above 0 (omega arith) in
    let rest = over_again more bs (λ (i : ℕ) (h : i < more). above (suc i) (omega arith)) over in
    rw (next_byte more b bs first, rest) refl

pub long_again : (bytes : List ℕ) → IsLongVarint bytes → varint_at bytes ≡ Err LongVarint
unfolding varint_at
long_again bytes h = over_again 9 bytes h.goes_on h.over

-- ---- what is read is spelled

-- the value of a step that did not fail
pub bind_ok : {A B : Type 0} (r : Result A Fault) (f : A → Result B Fault) (y : B) → (r >>= f) ≡ Ok y → (x : A) × (r ≡ Ok x) × (f x ≡ Ok y)
bind_ok (Ok x) f y e = (x, refl, e)
bind_ok (Err d) f y e = absurd cc

-- where two steps failed
pub bind_err : {A B : Type 0} (r : Result A Fault) (f : A → Result B Fault) (k : Fault) → (r >>= f) ≡ Err k → (r ≡ Err k) ⊎ ((x : A) × (r ≡ Ok x) × (f x ≡ Err k))
bind_err (Ok x) f k e = inr (x, refl, e)
bind_err (Err d) f k e = let same : d ≡ k = cc in inl (ap (λ (j : Fault). Err j) same)

-- a varint at the front, with at most this many bytes before the last
pub record BeginsWith (more : ℕ) (bytes : List ℕ) (n : ℕ) (rest : List ℕ) : Type 0 where
  pub text : List ℕ
  pub parts : bytes ≡ text ++ rest
  pub spells : IsSpelling text n
  pub short : length text ≤ more + 1
  pub fits : n < 2 ^ (7 * more + 1)

begins_more : (more b : ℕ) (bs : List ℕ) (high : ℕ) (rest : List ℕ) → b < 256 → 128 ≤ b → BeginsWith more bs high rest → BeginsWith (suc more) (b ∷ bs) (b - 128 + 128 * high) rest
begins_more more b bs high rest byte above h =
    record {
      text = b ∷ h.text;
      parts = ap (λ (w : List ℕ). b ∷ w) h.parts;
      spells = inr (above, byte, (high, omega arith, h.spells));
      short = omega arith;
      fits = omega (arith, wider more, h.fits);
    }

begins_last : (more b : ℕ) (bs : List ℕ) → b < 128 → b < 2 ^ (7 * more + 1) → BeginsWith more (b ∷ bs) b bs
begins_last more b bs below fits = record { text = b ∷ []; parts = refl; spells = inl (below, refl, refl); short = omega arith; fits = fits }

-- how a byte was judged
pub judged : {A : Type 0} (b : Bool) (x y z : A) → cond b x y ≡ z → ((b ≡ true) × (x ≡ z)) ⊎ ((b ≡ false) × (y ≡ z))
judged true x y z e = inl (refl, e)
judged false x y z e = inr (refl, e)

AreBytes-rest : (b : ℕ) (bytes : List ℕ) → AreBytes (b ∷ bytes) → AreBytes bytes
AreBytes-rest b bytes h i = h (suc i)

abbrev pub found : {A : Type 0} → A → Result A Fault
found x = Ok x

pub same_found : {A : Type 0} (x y : A) → found x ≡ found y → x ≡ y
same_found x y e = cc

spelled_takes : (more : ℕ) (bytes : List ℕ) (n : ℕ) (rest : List ℕ) → AreBytes bytes → varint_within more bytes ≡ Ok (n, rest) → BeginsWith more bytes n rest
spelled_takes more [] n rest fits e = absurd cc
spelled_takes zero (b ∷ bs) n rest fits e =
    elim (judged (ltb 1 b) (Err LongVarint) (Ok (b, bs)) (Ok (n, rest)) e) [
      | inl over ↦ let wrong = over.1 in absurd cc
      | inr here ↦
          let bit : b ≤ 1 = ltb-false 1 b here.0 in
          let made : ℕ × List ℕ = (b, bs) in
          subst (λ (x : ℕ × List ℕ). BeginsWith 0 (b ∷ bs) x.0 x.1) (same_found made (n, rest) here.1) (begins_last 0 b bs (omega arith) (omega arith))
    ]
spelled_takes (suc more) (b ∷ bs) n rest fits e =
    elim (judged (ltb b 128) (Ok (b, bs)) (varint_within more bs >>= λ high. Ok (b - 128 + 128 * high.0, high.1)) (Ok (n, rest)) e) [
      | inl here ↦
          let below : b < 128 = ltb-true b 128 here.0 in
          let made : ℕ × List ℕ = (b, bs) in
          subst (λ (x : ℕ × List ℕ). BeginsWith (suc more) (b ∷ bs) x.0 x.1) (same_found made (n, rest) here.1) (begins_last (suc more) b bs below (wide_enough below))
      | inr on ↦
          let above : 128 ≤ b = ltb-false b 128 on.0 in
          let high = bind_ok (varint_within more bs) (λ high. Ok (b - 128 + 128 * high.0, high.1)) (n, rest) on.1 in
          let back = spelled_takes more bs high.0.0 high.0.1 (AreBytes-rest b bs fits) high.1 in
          let made : ℕ × List ℕ = (b - 128 + 128 * high.0.0, high.0.1) in
          subst (λ (x : ℕ × List ℕ). BeginsWith (suc more) (b ∷ bs) x.0 x.1) (same_found made (n, rest) high.2) (begins_more more b bs high.0.0 high.0.1 (fits 0) above back)
    ]
  where
    wide_enough : b < 128 → b < 2 ^ (7 * suc more + 1)
    wide_enough below = let some : 1 ≤ 2 ^ (7 * more + 1) = pow_pos (7 * more + 1) in omega (arith, wider more)

pub varint_takes : (bytes : List ℕ) (n : ℕ) (rest : List ℕ) → AreBytes bytes → varint_at bytes ≡ Ok (n, rest) → (text : List ℕ) × (bytes ≡ text ++ rest) × IsVarint text n
unfolding varint_at
varint_takes bytes n rest fits e =
    let h = spelled_takes 9 bytes n rest fits e in
    (h.text, h.parts, record { spells = h.spells; short = h.short; fits = h.fits })

-- what a refused varint looks like
abbrev RefusedWithin : ℕ → List ℕ → Fault → Type 0
RefusedWithin more bytes Truncated = (length bytes ≤ more) × ((i : ℕ) → i < length bytes → 128 ≤ get_or bytes i 0)
RefusedWithin more bytes LongVarint = ((i : ℕ) → i < more → 128 ≤ get_or bytes i 0) × (1 < get_or bytes more 0)
RefusedWithin more bytes BadType = ⊥

refused_more : (more b : ℕ) (bs : List ℕ) (k : Fault) → 128 ≤ b → RefusedWithin more bs k → RefusedWithin (suc more) (b ∷ bs) k
refused_more more b bs Truncated above h = (omega (arith, h.0), λ i. each i)
  where
    each : (i : ℕ) → i < length (b ∷ bs) → 128 ≤ get_or (b ∷ bs) i 0
    each zero lt = above
    each (suc i) lt = h.1 i (omega arith)
refused_more more b bs LongVarint above h = (λ i. each i, h.1)
  where
    each : (i : ℕ) → i < suc more → 128 ≤ get_or (b ∷ bs) i 0
    each zero lt = above
    each (suc i) lt = h.0 i (omega arith)
refused_more more b bs BadType above h = absurd h

refused_within : (more : ℕ) (bytes : List ℕ) (k : Fault) → varint_within more bytes ≡ Err k → RefusedWithin more bytes k
refused_within more [] k e = let same : Truncated ≡ k = cc in subst (λ (j : Fault). RefusedWithin more [] j) same (omega arith, λ i h. absurd (omega arith))
refused_within zero (b ∷ bs) k e =
    elim (judged (ltb 1 b) (Err LongVarint) (Ok (b, bs)) (Err k) e) [
      | inl over ↦
          let same : LongVarint ≡ k = let wrong = over.1 in cc in
          subst (λ (j : Fault). RefusedWithin 0 (b ∷ bs) j) same (λ i h. absurd (omega arith), ltb-true 1 b over.0)
      | inr here ↦ let wrong = here.1 in absurd cc
    ]
refused_within (suc more) (b ∷ bs) k e =
    elim (judged (ltb b 128) (Ok (b, bs)) (varint_within more bs >>= λ high. Ok (b - 128 + 128 * high.0, high.1)) (Err k) e) [
      | inl here ↦ let wrong = here.1 in absurd cc
      | inr on ↦
          let above : 128 ≤ b = ltb-false b 128 on.0 in
          elim (bind_err (varint_within more bs) (λ high. Ok (b - 128 + 128 * high.0, high.1)) k on.1) [
            | inl first ↦ refused_more more b bs k above (refused_within more bs k first)
            | inr second ↦ let wrong = second.2 in absurd cc
          ]
    ]

pub varint_ends : (bytes : List ℕ) → varint_at bytes ≡ Err Truncated → EndsWithinVarint bytes
unfolding varint_at
varint_ends bytes e = let h = refused_within 9 bytes Truncated e in record { short = omega (arith, h.0); goes_on = h.1 }

pub varint_long : (bytes : List ℕ) → varint_at bytes ≡ Err LongVarint → IsLongVarint bytes
unfolding varint_at
varint_long bytes e = let h = refused_within 9 bytes LongVarint e in record { goes_on = h.0; over = h.1 }

pub varint_typeless : (bytes : List ℕ) → varint_at bytes ≡ Err BadType → ⊥
unfolding varint_at
varint_typeless bytes e = refused_within 9 bytes BadType e
