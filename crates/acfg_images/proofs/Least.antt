-- The first number that passes, as a loop that counts up finds it.
use Rattle.std.proofs.Common.{◌≡◌, ℕ, zero, suc, ◌+◌, ◌-◌, ◌<◌, ◌≤◌, Bool, true, false, ltb, Option, Some, None, refl, sym, ap, ◌∙◌, arith, add-one, inl, inr}
use Rattle.std.proofs.lemmas.Bool.{cases_eq}
use Rattle.std.proofs.lemmas.Bool.Decides.{nat_tests}
use Rattle.acfg_images.specs.Words.{least}

module _ (passes : ℕ → Bool) (n i : ℕ) (total : Option ℕ) where
  pub least_found : i < n → passes i ≡ true → least passes i (n - i) ≡ total → Some i ≡ total
  least_found lt yes_i so_far =
      let k : n - i ≡ suc (n - suc i) = omega arith in
      let here : least passes i (n - i) ≡ Some i = rw (k, yes_i) refl in
      sym here ∙ so_far

  pub least_next : i < n → passes i ≡ false → least passes i (n - i) ≡ total → least passes (i + 1) (n - (i + 1)) ≡ total
  least_next lt no_i so_far =
      let k : n - i ≡ suc (n - (i + 1)) = omega arith in
      let here : least passes i (n - i) ≡ least passes (suc i) (n - (i + 1)) = rw (k, no_i) refl in
      rw add-one (sym (rw add-one at here) ∙ so_far)

  pub least_end : n ≤ i → least passes i (n - i) ≡ total → None ≡ total
  least_end le so_far =
      let k : n - i ≡ 0 = omega arith in
      let here : least passes i (n - i) ≡ None = rw k refl in
      sym here ∙ so_far

later : (passes : ℕ → Bool) (from more : ℕ) → passes from ≡ false → least passes from (suc more) ≡ None → least passes (suc from) more ≡ None
later passes from more is e = let here : least passes from (suc more) ≡ least passes (suc from) more = rw is refl in sym here ∙ e

-- none passes exactly where the least is none
pub least-none : (passes : ℕ → Bool) (from more : ℕ) → least passes from more ≡ None → (k : ℕ) → from ≤ k → k < from + more → passes k ≡ false
least-none passes from zero e k le lt = absurd (omega arith)
least-none passes from (suc more) e k le lt = go (passes from) refl (λ is other. least-none passes (suc from) more (later passes from more is e) k (omega arith) (omega arith))
  where
    go : (b : Bool) → passes from ≡ b → (passes from ≡ false → (from ≡ k → ⊥) → passes k ≡ false) → passes k ≡ false
    go true is rest = let here : least passes from (suc more) ≡ Some from = rw is refl in absurd cc
    go false is rest =
        elim (cases_eq from k) [
          | inl same ↦ ap passes (sym same) ∙ is
          | inr other ↦ rest is other
        ]

pub least-none_from : (passes : ℕ → Bool) (from more : ℕ) → ((k : ℕ) → from ≤ k → k < from + more → passes k ≡ false) → least passes from more ≡ None
least-none_from passes from zero h = refl
least-none_from passes from (suc more) h =
    let first = h from (omega arith) (omega arith) in
    let rest = least-none_from passes (suc from) more (λ k le lt. h k (omega arith) (omega arith)) in
    rw first rest

-- two tests that agree have one first number
pub least-same : (p q : ℕ → Bool) (from more : ℕ) → ((k : ℕ) → k < from + more → p k ≡ q k) → least p from more ≡ least q from more
least-same p q from zero h = refl
least-same p q from (suc more) h =
    let first = h from (omega arith) in
    let rest = least-same p q (suc from) more (λ k lt. h k (omega arith)) in
    rw (first, rest) refl

pub below_count : {i end count : ℕ} → i < end → end ≡ count → i < count
below_count lt e = omega arith

pub over_one : {found byte : ℕ} → 1 < found → found ≡ byte → ltb 1 byte ≡ true
over_one {found} {byte} lt e = let h : 1 < byte = omega arith in grind (arith, nat_tests)

pub within_one : {found byte : ℕ} → found ≤ 1 → found ≡ byte → ltb 1 byte ≡ false
within_one {found} {byte} le e = let h : byte ≤ 1 = omega arith in grind (arith, nat_tests)
