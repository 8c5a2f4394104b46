-- Counts in lists, and numbers of which there are as many as there have to be.
use Rattle.std.proofs.Common.{◌≡◌, ℕ, zero, suc, ◌+◌, ◌<◌, ◌≤◌, Bool, true, false, cond, eqb, ltb, ◌||◌, List, [], ◌∷◌, length, map, Some, None, refl, sym, ap, ◌∙◌, arith, inl, inr}
use Rattle.std.specs.Prelude.{find, count_by, All}
use Rattle.std.specs.Option.{option_map}
use Rattle.std.specs.List.{list_any}
use Rattle.std.proofs.lemmas.Bool.{cases_eq}
use Rattle.std.proofs.lemmas.Bool.Decides.{nat_tests}
use Rattle.std.proofs.lemmas.List.Sums.{sum_by-cons, count_by-le-length}

pub count-step : {X : Type 0} (p : X → Bool) (x : X) (xs : List X) → count_by p (x ∷ xs) ≡ cond (p x) 1 0 + count_by p xs
count-step p x xs = sum_by-cons (λ y. cond (p y) 1 0) x xs

as_number : (b c : Bool) → b ≡ c → cond {A = ℕ} b 1 0 ≡ cond {A = ℕ} c 1 0
as_number b c e = ap (λ (d : Bool). cond {A = ℕ} d 1 0) e

pub count-hit : {X : Type 0} (p : X → Bool) (x : X) (xs : List X) → p x ≡ true → count_by p (x ∷ xs) ≡ suc (count_by p xs)
count-hit p x xs hit =
    let step = count-step p x xs in
    let one = as_number (p x) true hit in
    omega arith

pub count-miss : {X : Type 0} (p : X → Bool) (x : X) (xs : List X) → p x ≡ false → count_by p (x ∷ xs) ≡ count_by p xs
count-miss p x xs miss =
    let step = count-step p x xs in
    let none = as_number (p x) false miss in
    omega arith

-- ---- what is found

some_is : {X : Type 0} (x y : X) → Some x ≡ Some y → x ≡ y
some_is x y e = cc

pub found_passes : {X : Type 0} (p : X → Bool) (xs : List X) (n : X) → find p xs ≡ Some n → p n ≡ true
found_passes p [] n e = absurd cc
found_passes p (x ∷ xs) n e = go (p x) refl e (found_passes p xs n)
  where
    go : (b : Bool) → p x ≡ b → cond b (Some x) (find p xs) ≡ Some n → (find p xs ≡ Some n → p n ≡ true) → p n ≡ true
    go true hit f later = ap p (sym (some_is x n f)) ∙ hit
    go false miss f later = later f

pub found_of_any : {X : Type 0} (p : X → Bool) (xs : List X) → list_any p xs ≡ true → (n : X) × (find p xs ≡ Some n)
found_of_any p [] e = absurd cc
found_of_any {X} p (x ∷ xs) e = go (p x) refl e (found_of_any p xs)
  where
    go : (b : Bool) → p x ≡ b → (b || list_any p xs) ≡ true → (list_any p xs ≡ true → (n : X) × (find p xs ≡ Some n)) → (n : X) × (find p (x ∷ xs) ≡ Some n)
    go true hit f later = (x, rw hit refl)
    go false miss f later = let l = later f in (l.0, rw miss l.1)

pub count_any : {X : Type 0} (p : X → Bool) (xs : List X) → list_any p xs ≡ true → 1 ≤ count_by p xs
count_any p [] e = absurd cc
count_any p (x ∷ xs) e = go (p x) refl e (count_any p xs)
  where
    go : (b : Bool) → p x ≡ b → (b || list_any p xs) ≡ true → (list_any p xs ≡ true → 1 ≤ count_by p xs) → 1 ≤ count_by p (x ∷ xs)
    go true hit f later = let c = count-hit p x xs hit in omega arith
    go false miss f later = let c = count-miss p x xs miss in let l = later f in omega arith

-- what is found counts where it passes
pub count_found : {X : Type 0} (p q : X → Bool) (xs : List X) (n : X) → find p xs ≡ Some n → q n ≡ true → 1 ≤ count_by q xs
count_found p q [] n e hit = absurd cc
count_found p q (x ∷ xs) n e hit = go (p x) refl e (λ f. count_found p q xs n f hit)
  where
    go : (b : Bool) → p x ≡ b → cond b (Some x) (find p xs) ≡ Some n → (find p xs ≡ Some n → 1 ≤ count_by q xs) → 1 ≤ count_by q (x ∷ xs)
    go true here f later = let c = count-hit q x xs (ap q (some_is x n f) ∙ hit) in omega arith
    go false there f later = let l = later f in let step = count-step q x xs in omega arith

-- where at most one passes, what is found and passes is that one
pub one_of : {X : Type 0} (p q : X → Bool) (xs : List X) (n : X) → count_by q xs ≤ 1 → find p xs ≡ Some n → q n ≡ true → find q xs ≡ Some n
one_of p q [] n few e hit = absurd cc
one_of {X} p q (x ∷ xs) n few e hit = go (q x) (p x) refl refl e (λ less f. one_of p q xs n less f hit)
  where
    go : (a b : Bool) → q x ≡ a → p x ≡ b → cond b (Some x) (find p xs) ≡ Some n → (count_by q xs ≤ 1 → find p xs ≡ Some n → find q xs ≡ Some n) → find q (x ∷ xs) ≡ Some n
    go true true here first f later = let is = some_is x n f in rw here (ap (λ (m : X). Some m) is)
    go true false here out f later =
        let c = count-hit q x xs here in
        let another = count_found p q xs n f hit in
        absurd (omega arith)
    go false true out first f later = let wrong : true ≡ false = sym hit ∙ ap q (sym (some_is x n f)) ∙ out in absurd cc
    go false false out past f later = let c = count-miss q x xs out in rw out (later (omega arith) f)

-- where all pass, what is found does
pub all_pass : {X : Type 0} (p q : X → Bool) (xs : List X) (n : X) → length xs ≤ count_by q xs → find p xs ≡ Some n → q n ≡ true
all_pass p q [] n all e = absurd cc
all_pass p q (x ∷ xs) n all e = go (q x) (p x) refl refl e (λ rest f. all_pass p q xs n rest f)
  where
    go : (a b : Bool) → q x ≡ a → p x ≡ b → cond b (Some x) (find p xs) ≡ Some n → (length xs ≤ count_by q xs → find p xs ≡ Some n → q n ≡ true) → q n ≡ true
    go true true here first f later = ap q (sym (some_is x n f)) ∙ here
    go true false here out f later = let c = count-hit q x xs here in later (omega arith) f
    go false b out first f later =
        let c = count-miss q x xs out in
        let most = count_by-le-length q xs in
        absurd (omega arith)

-- ---- what is found in a list that is made of another

pub find_mapped : {X Y : Type 0} (g : X → Y) (test : Y → Bool) (p : X → Bool) (xs : List X) → All (λ x. test (g x) ≡ p x) xs → find test (map g xs) ≡ option_map g (find p xs)
find_mapped g test p [] fits = refl
find_mapped g test p (x ∷ xs) fits =
    let here : test (g x) ≡ p x = fits 0 x (omega arith) in
    let later = find_mapped g test p xs (λ k d lt. fits (suc k) d (omega arith)) in
    go (p x) refl here later
  where
    go : (b : Bool) → p x ≡ b → test (g x) ≡ p x → find test (map g xs) ≡ option_map g (find p xs) → find test (map g (x ∷ xs)) ≡ option_map g (find p (x ∷ xs))
    go true hit here later = let there : test (g x) ≡ true = here ∙ hit in rw (there, hit) refl
    go false miss here later = let there : test (g x) ≡ false = here ∙ miss in rw (there, miss) later

pub find_none : {X : Type 0} (xs : List X) → find (λ x. false) xs ≡ None
find_none [] = refl
find_none (x ∷ xs) = find_none xs

-- ---- numbers that are each had

module _ {X : Type 0} (f : X → ℕ) where
  -- how many have this number, and how many one below it
  abbrev pub having_it : ℕ → List X → ℕ
  having_it k xs = count_by (λ x. eqb (f x) k) xs

  abbrev pub below : ℕ → List X → ℕ
  below k xs = count_by (λ x. ltb (f x) k) xs

  parts : (a k : ℕ) → cond (ltb a (suc k)) 1 0 ≡ cond (eqb a k) 1 0 + cond (ltb a k) 1 0
  parts a k = grind (arith, nat_tests)

  below_more : (k : ℕ) (xs : List X) → below (suc k) xs ≡ having_it k xs + below k xs
  below_more k [] = refl
  below_more k (x ∷ xs) =
      let later = below_more k xs in
      let a = count-step (λ y. ltb (f y) (suc k)) x xs in
      let b = count-step (λ y. eqb (f y) k) x xs in
      let c = count-step (λ y. ltb (f y) k) x xs in
      let d = parts (f x) k in
      omega arith

  -- each number below this one is had
  abbrev pub EachHad : ℕ → List X → Type 0
  EachHad k xs = (j : ℕ) → j < k → 1 ≤ having_it j xs

  pub below_all : (k : ℕ) (xs : List X) → EachHad k xs → k ≤ below k xs
  below_all zero xs had = omega arith
  below_all (suc k) xs had =
      let rest = below_all k xs (λ j lt. had j (omega arith)) in
      let more = below_more k xs in
      let one = had k (omega arith) in
      omega arith

  -- and none twice, where no more have one
  pub once : (k : ℕ) (xs : List X) → EachHad k xs → below k xs ≤ k → (j : ℕ) → j < k → having_it j xs ≤ 1
  once zero xs had few j lt = absurd (omega arith)
  once (suc k) xs had few j lt =
      let rest : EachHad k xs = λ i i_lt. had i (omega arith) in
      let all = below_all k xs rest in
      let more = below_more k xs in
      let one = had k (omega arith) in
      elim (cases_eq j k) [
        | inl here ↦ let is : having_it j xs ≡ having_it k xs = ap (λ (i : ℕ). having_it i xs) here in omega arith
        | inr other ↦ once k xs rest (omega arith) j (omega arith)
      ]
