-- The first element that isn't lawful, and texts cut at the first byte of a kind.
use Rattle.std.proofs.Common.{◌≡◌, ◌≢◌, ℕ, suc, zero, ◌<◌, ◌+◌, Bool, true, false, not, List, [], ◌∷◌, ◌++◌, length, get_or, take, drop, refl, sym, ap, ◌∙◌, subst, All, arith}
use Rattle.std.specs.List.{position_or_len, before_first, after_first}
use Rattle.std.proofs.lemmas.Bool.{eqb-true, eqb-false}
use Rattle.std.proofs.lemmas.List.Elements.{All-tail}
use Rattle.std.proofs.lemmas.List.Sums.{fails_before_first, split_at_first, prefix_len_stops}
use Rattle.std.proofs.lemmas.List.{get_or-take, length-take}
use lib.Dec.{eqb}
use Rattle.acfg_dump.specs.Bodies.{IsCutAt, IsWithout}

pub All-head : {X : Type 0} (P : X → Type 0) (x : X) (xs : List X) → All P (x ∷ xs) → P x
All-head P x xs all = all 0 x (omega arith)

-- what each element of a list keeps, one in its midst keeps
pub All-middle : {X : Type 0} (P : X → Type 0) (before : List X) (x : X) (behind : List X) → All P (before ++ x ∷ behind) → P x
All-middle P [] x behind all = All-head P x behind all
All-middle P (y ∷ before) x behind all = All-middle P before x behind (All-tail P y (before ++ x ∷ behind) all)

-- two cuts at the first element that isn't lawful are one
pub first_unique : {X : Type 0} (P : X → Type 0) (a b : List X) (x y : X) (s t : List X) → All P a → All P b → (P x → ⊥) → (P y → ⊥)
    → a ++ x ∷ s ≡ b ++ y ∷ t → (a ≡ b) × (x ≡ y)
first_unique P [] [] x y s t before too bad worse same = (refl, cc)
first_unique P [] (m ∷ b) x y s t before too bad worse same = let one : x ≡ m = cc in absurd (bad (subst P (sym one) (All-head P m b too)))
first_unique P (m ∷ a) [] x y s t before too bad worse same = let one : m ≡ y = cc in absurd (worse (subst P one (All-head P m a before)))
first_unique P (m ∷ a) (n ∷ b) x y s t before too bad worse same =
    let one : m ≡ n = cc in
    let tails : a ++ x ∷ s ≡ b ++ y ∷ t = cc in
    let rest = first_unique P a b x y s t (All-tail P m a before) (All-tail P n b too) bad worse tails in
    (λ j. one j ∷ rest.0 j, rest.1)

-- two cuts at the first byte of a kind are one
pub cut_unique : (s : ℕ) (a b x y : List ℕ) → IsWithout s a → IsWithout s b → a ++ s ∷ x ≡ b ++ s ∷ y → (a ≡ b) × (x ≡ y)
cut_unique s [] [] x y before too same = (refl, cc)
cut_unique s [] (m ∷ b) x y before too same = let one : m ≡ s = cc in absurd (All-head (λ other. other ≢ s) m b too one)
cut_unique s (m ∷ a) [] x y before too same = let one : m ≡ s = cc in absurd (All-head (λ other. other ≢ s) m a before one)
cut_unique s (m ∷ a) (n ∷ b) x y before too same =
    let one : m ≡ n = cc in
    let tails : a ++ s ∷ x ≡ b ++ s ∷ y = cc in
    let rest = cut_unique s a b x y (All-tail (λ other. other ≢ s) m a before) (All-tail (λ other. other ≢ s) n b too) tails in
    (λ j. one j ∷ rest.0 j, rest.1)

-- a byte stands in no text that is without it
pub never_cut : (s : ℕ) (a b x : List ℕ) → IsWithout s a → a ≡ b ++ s ∷ x → ⊥
never_cut s a b x without same = All-middle (λ other. other ≢ s) b s x (subst (IsWithout s) same without) refl

not_false : (b : Bool) → not b ≡ false → b ≡ true
not_false true h = refl
not_false false h = cc

-- what stands before the first byte of a kind, and behind it
pub cut_at_first : (s : ℕ) (xs : List ℕ) → position_or_len (λ b. eqb b s) xs < length xs → IsCutAt s xs (before_first (λ b. eqb b s) xs) (after_first (λ b. eqb b s) xs)
cut_at_first s xs within =
    let test : ℕ → Bool = λ b. eqb b s in
    let end : ℕ = position_or_len test xs in
    let here : get_or xs end 0 ≡ s = eqb-true _ _ (not_false _ (prefix_len_stops (λ x. not (test x)) xs 0 within)) in
    record {
      first = λ k d below same.
          let inside : k < end = omega (arith, length-take end xs) in
          eqb-false _ _ (fails_before_first test xs k d inside) (sym (get_or-take end xs k d inside) ∙ same);
      whole = split_at_first test xs 0 within ∙ ap (λ byte. before_first test xs ++ byte ∷ after_first test xs) here;
    }

pub uncut : (s : ℕ) (xs : List ℕ) → position_or_len (λ b. eqb b s) xs ≡ length xs → IsWithout s xs
uncut s xs all k d below same = eqb-false _ _ (fails_before_first (λ b. eqb b s) xs k d (omega arith)) same
