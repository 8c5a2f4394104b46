-- A varint as the loop reads it: the low groups so far, and what the rest gives.
use Rattle.std.proofs.Common.{◌⊎◌, ◌≡◌, ℕ, zero, suc, ◌+◌, ◌-◌, ◌*◌, ◌%◌, ◌^◌, ◌<◌, ◌≤◌, List, ◌∷◌, drop, get_or, length, Result, Ok, Err, refl, sym, ap, ◌∙◌, arith, inl, inr}
use Rattle.std.specs.Prelude.{bit_and, bit_or}
use Rattle.std.proofs.lemmas.Nat.{or_comm, or_shifted, and_mask, shl_whole, pow-add, mul-le}
use Rattle.std.proofs.lemmas.List.{drop_more}
use Rattle.std.proofs.lemmas.Bool.{le-ltb, lt-ltb, cases_lt}
use Rattle.acfg_wire.specs.declared.fault.Fault.{Fault}
use Rattle.acfg_wire.specs.declared.fault.Fault.TheVariants.{LongVarint}
use Rattle.acfg_wire.specs.Reading.{◌>>=◌, varint_within}

-- the number so far is low, and scale times what the rest gives comes to it
abbrev pub with_low : ℕ → ℕ → Result (ℕ × List ℕ) Fault → Result (ℕ × List ℕ) Fault
with_low low scale read = read >>= λ high. Ok (low + scale * high.0, high.1)

-- seven more bits above k bits, of which j count
pub joined : (value b j k : ℕ) → value < 2 ^ k → b % 128 < 2 ^ j → j + k ≤ 64 → bit_or value (bit_and b 127 * 2 ^ k % 2 ^ 64) ≡ value + 2 ^ k * (b % 128)
joined value b j k low few fits =
    let masked : bit_and b 127 ≡ b % 128 = and_mask b 7 in
    rw (masked, shl_whole (b % 128) j k 64 few fits, or_comm value (b % 128 * 2 ^ k), or_shifted (b % 128) k value low) (omega arith)

-- a tenth byte that was let pass has one bit
pub one_bit : (i b : ℕ) → ((i ≡ 9) × (b ≤ 1)) ⊎ (i ≡ 9 → ⊥) → i ≡ 9 → b ≤ 1
one_bit i b (inl h) nine = h.1
one_bit i b (inr h) nine = absurd (h nine)

-- the same at the groups of a varint, of which the tenth has one bit
pub joined_at : (value b i : ℕ) → i ≤ 9 → (i ≡ 9 → b ≤ 1) → value < 2 ^ (7 * i) → bit_or value (bit_and b 127 * 2 ^ (7 * i) % 2 ^ 64) ≡ value + 2 ^ (7 * i) * (b % 128)
joined_at value b i within bit low =
    elim (cases_lt i 9) [
      | inl early ↦ joined value b 7 (7 * i) low (omega arith) (omega arith)
      | inr late ↦ let few : b ≤ 1 = bit (omega arith) in joined value b 1 (7 * i) low (omega arith) (omega arith)
    ]

-- a last byte
pub last_byte : (more b : ℕ) (bs : List ℕ) → b < 128 → (more ≡ 0 → b ≤ 1) → varint_within more (b ∷ bs) ≡ Ok (b, bs)
last_byte zero b bs below bit = rw (le-ltb 1 b (bit refl)) refl
last_byte (suc more) b bs below bit = rw (lt-ltb b 128 below) refl

-- a byte that others follow
pub next_byte : (more b : ℕ) (bs : List ℕ) → 128 ≤ b → varint_within (suc more) (b ∷ bs) ≡ (varint_within more bs >>= λ high. Ok (b - 128 + 128 * high.0, high.1))
next_byte more b bs above = rw (le-ltb b 128 above) refl

-- a tenth byte that is over 1
pub over_byte : (b : ℕ) (bs : List ℕ) → 1 < b → varint_within 0 (b ∷ bs) ≡ Err LongVarint
over_byte b bs over = rw (lt-ltb 1 b over) refl

with_low-more : (low scale g : ℕ) (read : Result (ℕ × List ℕ) Fault) → with_low low scale (read >>= λ high. Ok (g + 128 * high.0, high.1)) ≡ with_low (low + scale * g) (scale * 128) read
with_low-more low scale g (Ok x) = let e : low + scale * (g + 128 * x.0) ≡ low + scale * g + scale * 128 * x.0 = omega arith in rw e refl
with_low-more low scale g (Err e) = refl

pub scale_more : (i : ℕ) → 2 ^ (7 * (i + 1)) ≡ 2 ^ (7 * i) * 128
scale_more i = let e : 7 * (i + 1) ≡ 7 * i + 7 = omega arith in rw e (pow-add 2 (7 * i) 7)

module _ (bytes : List ℕ) (value i b : ℕ) (total : Result (ℕ × List ℕ) Fault) (within : i ≤ 9) (here : i < length bytes) (byte : get_or bytes i 0 ≡ b) (so_far : with_low value (2 ^ (7 * i)) (varint_within (9 - i) (drop i bytes)) ≡ total) where
  at_byte : with_low value (2 ^ (7 * i)) (varint_within (9 - i) (b ∷ drop (i + 1) bytes)) ≡ total
  at_byte = let e : drop i bytes ≡ b ∷ drop (i + 1) bytes = drop_more bytes i 0 here ∙ ap (λ (x : ℕ). x ∷ drop (i + 1) bytes) byte in rw e at so_far

  pub ends_here : b < 128 → (i ≡ 9 → b ≤ 1) → total ≡ Ok (value + 2 ^ (7 * i) * b, drop (i + 1) bytes)
  ends_here below bit =
      let last : varint_within (9 - i) (b ∷ drop (i + 1) bytes) ≡ Ok (b, drop (i + 1) bytes) = last_byte (9 - i) b (drop (i + 1) bytes) below (λ (e : 9 - i ≡ 0). bit (omega arith)) in
      let e = rw last at at_byte in sym e

  pub goes_on : i < 9 → 128 ≤ b → with_low (value + 2 ^ (7 * i) * (b - 128)) (2 ^ (7 * (i + 1))) (varint_within (9 - (i + 1)) (drop (i + 1) bytes)) ≡ total
  goes_on early above =
      let k : 9 - i ≡ suc (9 - (i + 1)) = omega arith in
      let e = rw (k, next_byte (9 - (i + 1)) b (drop (i + 1) bytes) above, with_low-more value (2 ^ (7 * i)) (b - 128) (varint_within (9 - (i + 1)) (drop (i + 1) bytes))) at at_byte in
      rw (scale_more i) e

pub no_low : (read : Result (ℕ × List ℕ) Fault) → with_low 0 1 read ≡ read
no_low (Ok x) = let e : 0 + 1 * x.0 ≡ x.0 = omega arith in rw e refl
no_low (Err e) = refl

-- only the first nine bytes may say that another one follows
pub below_tenth : (i b : ℕ) → i ≤ 9 → (i ≡ 9 → b ≤ 1) → 128 ≤ b → i < 9
below_tenth i b within bit above =
    elim (cases_lt i 9) [
      | inl early ↦ early
      | inr late ↦ let few : b ≤ 1 = bit (omega arith) in absurd (omega arith)
    ]

pub below_more_groups : (low scale g : ℕ) → low < scale → g < 128 → low + scale * g < scale * 128
below_more_groups low scale g below small = let step : scale * (g + 1) ≤ scale * 128 = mul-le scale (g + 1) scale 128 (omega arith) (omega arith) in omega arith
