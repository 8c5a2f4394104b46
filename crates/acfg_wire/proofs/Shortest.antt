-- The shortest spelling of a number, and the fields that are made of it.
use Rattle.std.proofs.Common.{◌≡◌, ℕ, zero, suc, ◌+◌, ◌*◌, ◌/◌, ◌%◌, ◌^◌, ◌<◌, ◌≤◌, List, [], ◌∷◌, ◌++◌, length, refl, add-zero, arith, inl, inr}
use Rattle.std.proofs.lemmas.Bool.{cases_lt, lt-ltb, le-ltb}
use Rattle.std.proofs.lemmas.Nat.{shr_below}
use Rattle.acfg_wire.specs.Varint.{IsSpelling, IsVarint, shortest_within, shortest}
use Rattle.acfg_wire.specs.Fields.{varint, delimited, IsField, IsFieldNumber, varint_field, bytes_field}

within_last : (more n : ℕ) → n < 128 → shortest_within more n ≡ n ∷ []
within_last zero n below = refl
within_last (suc more) n below = rw (lt-ltb n 128 below) refl

within_more : (more n : ℕ) → 128 ≤ n → shortest_within (suc more) n ≡ (128 + n % 128) ∷ shortest_within more (n / 128)
within_more more n above = rw (le-ltb n 128 above) refl

within_short : (more n : ℕ) → length (shortest_within more n) ≤ more + 1
within_short zero n = omega arith
within_short (suc more) n =
    elim (cases_lt n 128) [
      | inl below ↦ rw (within_last (suc more) n below) (omega arith)
      | inr above ↦ rw (within_more more n above) (let rest = within_short more (n / 128) in omega arith)
    ]

within_spells : (more n : ℕ) → n < 2 ^ (7 * more + 1) → IsSpelling (shortest_within more n) n
within_spells zero n few = inl (omega arith, refl, refl)
within_spells (suc more) n few =
    elim (cases_lt n 128) [
      | inl below ↦ rw (within_last (suc more) n below) (inl (below, refl, refl))
      | inr above ↦
          let k : 7 * suc more + 1 ≡ (7 * more + 1) + 7 = omega arith in
          let high : n / 128 < 2 ^ (7 * more + 1) = shr_below n (7 * more + 1) 7 (rw (← k) few) in
          rw (within_more more n above) (inr (omega arith, omega arith, (n / 128, omega arith, within_spells more (n / 128) high)))
    ]

pub shortest_spells : (n : ℕ) → n < 2 ^ 64 → IsVarint (shortest n) n
unfolding shortest
shortest_spells n fits = record { spells = within_spells 9 n fits; short = within_short 9 n; fits = fits }

within_least : (more n : ℕ) (bytes : List ℕ) → n < 2 ^ (7 * more + 1) → IsSpelling bytes n → length (shortest_within more n) ≤ length bytes
within_least more n [] few h = absurd h
within_least more n (b ∷ bs) few (inl (below, nil, is)) = rw (within_last more n (omega arith)) (omega arith)
within_least zero n (b ∷ bs) few (inr h) = omega arith
within_least (suc more) n (b ∷ bs) few (inr (above, byte, (high, e, s))) =
    elim (cases_lt n 128) [
      | inl small ↦ rw (within_last (suc more) n small) (omega arith)
      | inr large ↦
          let k : 7 * suc more + 1 ≡ (7 * more + 1) + 7 = omega arith in
          let few' : n / 128 < 2 ^ (7 * more + 1) = shr_below n (7 * more + 1) 7 (rw (← k) few) in
          let same : high ≡ n / 128 = omega arith in
          let rest = within_least more (n / 128) bs few' (rw same at s) in
          rw (within_more more n large) (omega arith)
    ]

pub shortest_least : (n : ℕ) (bytes : List ℕ) → n < 2 ^ 64 → IsSpelling bytes n → length (shortest n) ≤ length bytes
unfolding shortest
shortest_least n bytes fits h = within_least 9 n bytes fits h

no_rest : (bytes : List ℕ) (n : ℕ) → IsSpelling bytes n → length bytes ≡ 0 → ⊥
no_rest [] n h e = h
no_rest (b ∷ bs) n h e = absurd (omega arith)

within_only : (more n : ℕ) (bytes : List ℕ) → n < 2 ^ (7 * more + 1) → IsSpelling bytes n → length bytes ≡ length (shortest_within more n) → bytes ≡ shortest_within more n
within_only more n [] few h e = absurd h
within_only more n (b ∷ bs) few (inl (below, nil, is)) e = rw (within_last more n (omega arith), nil, is) refl
within_only zero n (b ∷ []) few (inr (above, byte, (high, is, s))) e = absurd s
within_only zero n (b ∷ c ∷ bs) few (inr h) e = absurd (omega arith)
within_only (suc more) n (b ∷ bs) few (inr (above, byte, (high, is, s))) e =
    elim (cases_lt n 128) [
      | inl small ↦ absurd (no_rest bs high s (let len = rw (within_last (suc more) n small) at e in omega arith))
      | inr large ↦
          let k : 7 * suc more + 1 ≡ (7 * more + 1) + 7 = omega arith in
          let few' : n / 128 < 2 ^ (7 * more + 1) = shr_below n (7 * more + 1) 7 (rw (← k) few) in
          let same : high ≡ n / 128 = omega arith in
          let low : b ≡ 128 + n % 128 = omega arith in
          let len : length bs ≡ length (shortest_within more (n / 128)) = let whole = rw (within_more more n large) at e in omega arith in
          let rest = within_only more (n / 128) bs few' (rw same at s) len in
          rw (within_more more n large, low, rest) refl
    ]

pub shortest_only : (n : ℕ) (bytes : List ℕ) → n < 2 ^ 64 → IsSpelling bytes n → length bytes ≡ length (shortest n) → bytes ≡ shortest n
unfolding shortest
shortest_only n bytes fits h e = within_only 9 n bytes fits h e

pub varint_field_is : (number n : ℕ) → IsFieldNumber number → n < 2 ^ 64 → IsField (varint_field number n) (record { number = number; value = varint n })
varint_field_is number n lawful fits =
    let least = lawful.least in
    let most = lawful.most in
    record {
      key = shortest (number * 8);
      behind = shortest n;
      parts = refl;
      keyed = rw add-zero (shortest_spells (number * 8) (omega arith));
      numbered = least;
      holds = shortest_spells n fits;
    }

pub bytes_field_is : (number : ℕ) (content : List ℕ) → IsFieldNumber number → length content < 2 ^ 64 → IsField (bytes_field number content) (record { number = number; value = delimited content })
bytes_field_is number content lawful fits =
    let least = lawful.least in
    let most = lawful.most in
    record {
      key = shortest (number * 8 + 2);
      behind = shortest (length content) ++ content;
      parts = refl;
      keyed = shortest_spells (number * 8 + 2) (omega arith);
      numbered = least;
      holds = (shortest (length content), shortest_spells (length content) fits, refl);
    }
