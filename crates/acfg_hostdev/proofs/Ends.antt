-- Where the last byte stands that passes.
use Rattle.std.proofs.Common.{◌≡◌, ◌+◌, ◌-◌, ◌<◌, ◌≤◌, inl, inr, ℕ, zero, suc, Bool, true, false, List, [], ◌∷◌, length, get_or, refl, sym, ◌∙◌, ap, subst, arith, min, nat_lt, take}
use Rattle.std.proofs.lemmas.Bool.{cases_lt}
use Rattle.std.proofs.lemmas.Bool.Decides.{nat_tests}
use Rattle.std.proofs.lemmas.List.{get_or-take, length-take}
use Rattle.std.proofs.lemmas.Str.{IsCharBoundary-before_ascii}
use Rattle.std.specs.Str.{IsCharBoundary}
use Rattle.acfg_hostdev.specs.Folder.{end_of}

-- no byte from there on passes
pub none_passes : (passes : ℕ → Bool) (bytes : List ℕ) → ((k : ℕ) → k < length bytes → passes (get_or bytes k 0) ≡ false) → end_of passes bytes ≡ 0
none_passes passes [] none = refl
none_passes passes (byte ∷ bytes) none =
    let rest : end_of passes bytes ≡ 0 = none_passes passes bytes (λ k low. none (suc k) (omega (arith, low))) in
    let here : passes byte ≡ false = none 0 (omega arith) in
    rw (rest, here) refl

pub ends_at : (passes : ℕ → Bool) (bytes : List ℕ) (end : ℕ) → end < length bytes → passes (get_or bytes end 0) ≡ true → ((k : ℕ) → end < k → k < length bytes → passes (get_or bytes k 0) ≡ false)
    → end_of passes bytes ≡ end + 1
ends_at passes [] end low here none = absurd (omega (arith, low))
ends_at passes (byte ∷ bytes) zero low here none =
    let rest : end_of passes bytes ≡ 0 = none_passes passes bytes (λ k low. none (suc k) (omega arith) (omega (arith, low))) in
    rw (rest, here) refl
ends_at passes (byte ∷ bytes) (suc end) low here none =
    let rest : end_of passes bytes ≡ end + 1 = ends_at passes bytes end (omega (arith, low)) here (λ k above below. none (suc k) (omega (arith, above)) (omega (arith, below))) in
    let some : nat_lt 0 (end + 1) ≡ true = grind (arith, nat_tests) in
    rw (rest, some) (omega arith)

-- where the stem ends, a slash stands, and so the text may be cut there
pub stem_boundary : (bytes : List ℕ) (whole front stem : ℕ) → front ≤ length (take whole bytes) → (0 < front → get_or (take whole bytes) (front - 1) 0 ≡ 47) → stem ≤ length (take front bytes)
    → (0 < stem → get_or (take front bytes) (stem - 1) 0 ≡ 47 → ⊥) → (stem < length (take front bytes) → get_or (take front bytes) stem 0 ≡ 47) → 0 < stem → IsCharBoundary bytes stem
stem_boundary bytes whole front stem fits slash within last behind some =
    let in_whole : front ≤ min whole (length bytes) = subst (λ (n : ℕ). front ≤ n) (length-take whole bytes) fits in
    let in_front : stem ≤ min front (length bytes) = subst (λ (n : ℕ). stem ≤ n) (length-take front bytes) within in
    elim (cases_lt stem front) [
      | inl low ↦
          let byte = sym (get_or-take front bytes stem 0 low) ∙ behind (subst (λ (n : ℕ). stem < n) (sym (length-take front bytes)) (omega (arith, in_whole, low))) in
          IsCharBoundary-before_ascii bytes stem (omega (arith, in_whole, low)) (omega (arith, byte))
      | inr high ↦
          let same : stem ≡ front = omega (arith, in_front, high) in
          absurd (last some
          (get_or-take front bytes (stem - 1) 0 (omega (arith, same, some))
          ∙ ap (λ (n : ℕ). get_or bytes (n - 1) 0) same
          ∙ sym (get_or-take whole bytes (front - 1) 0 (omega (arith, in_whole, same, some)))
          ∙ slash (omega (arith, same, some))))
    ]
