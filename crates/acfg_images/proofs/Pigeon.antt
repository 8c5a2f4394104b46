-- So many numbers, among which each one below their count stands, are these numbers, each once.
use Rattle.std.proofs.Common.{◌≡◌, ℕ, zero, suc, ◌+◌, ◌<◌, ◌≤◌, Bool, true, false, cond, eqb, ltb, List, [], ◌∷◌, length, get_or, map, All, refl, sym, ap, ◌∙◌, arith, inl, inr}
use Rattle.std.specs.Prelude.{count_by}
use Rattle.std.specs.List.{list_any}
use Rattle.std.proofs.lemmas.Bool.{cases_eq, ltb-true, le-ltb}
use Rattle.std.proofs.lemmas.Bool.Decides.{nat_tests}
use Rattle.std.proofs.lemmas.List.Elements.{All-nil, All-cons, All-weaker}
use Rattle.std.proofs.lemmas.List.Sums.{count_by-le-length, sum_by-cons}
use Rattle.acfg_images.specs.Words.{AreNumbered}

-- the values at the numbers below one, together
abbrev sum_below : (ℕ → ℕ) → ℕ → ℕ
sum_below f zero = 0
sum_below f (suc n) = sum_below f n + f n

abbrev counts : List ℕ → ℕ → ℕ
counts ns k = count_by (λ n. eqb n k) ns

pub count_by-cons : {X : Type 0} (p : X → Bool) (x : X) (xs : List X) → count_by p (x ∷ xs) ≡ cond (p x) 1 0 + count_by p xs
count_by-cons p x xs = sum_by-cons (λ y. cond (p y) 1 0) x xs

sum_below-same : (f g : ℕ → ℕ) (n : ℕ) → ((k : ℕ) → f k ≡ g k) → sum_below f n ≡ sum_below g n
sum_below-same f g zero same = refl
sum_below-same f g (suc n) same = let h = sum_below-same f g n same in let e = same n in omega arith

sum_below-plus : (f g : ℕ → ℕ) (n : ℕ) → sum_below (λ k. f k + g k) n ≡ sum_below f n + sum_below g n
sum_below-plus f g zero = refl
sum_below-plus f g (suc n) = let h = sum_below-plus f g n in omega arith

none_counted : (n : ℕ) → sum_below (counts []) n ≡ 0
none_counted zero = refl
none_counted (suc n) = let h = none_counted n in omega arith

one_counted : (x n : ℕ) → sum_below (λ k. cond (eqb x k) 1 0) n ≡ cond (ltb x n) 1 0
one_counted x zero = rw (le-ltb x 0 (omega arith)) refl
one_counted x (suc n) = rw (one_counted x n) (step x n)
  where
    step : (x n : ℕ) → cond (ltb x n) 1 0 + cond (eqb x n) 1 0 ≡ cond (ltb x (suc n)) 1 0
    step x n = grind (arith, nat_tests)

all_counted : (ns : List ℕ) (n : ℕ) → sum_below (counts ns) n ≡ count_by (λ m. ltb m n) ns
all_counted [] n = none_counted n
all_counted (x ∷ xs) n =
    sum_below-same (counts (x ∷ xs)) (λ k. cond (eqb x k) 1 0 + counts xs k) n (λ k. count_by-cons (λ m. eqb m k) x xs)
    ∙ sum_below-plus (λ k. cond (eqb x k) 1 0) (counts xs) n
    ∙ rw (one_counted x n, all_counted xs n) (sym (count_by-cons (λ m. ltb m n) x xs))

at_least : (f : ℕ → ℕ) (n : ℕ) → ((k : ℕ) → k < n → 1 ≤ f k) → n ≤ sum_below f n
at_least f zero some = omega arith
at_least f (suc n) some = let h = at_least f n (λ k lt. some k (omega arith)) in let e = some n (omega arith) in omega arith

each_one : (f : ℕ → ℕ) (n : ℕ) → ((k : ℕ) → k < n → 1 ≤ f k) → sum_below f n ≤ n → (k : ℕ) → k < n → f k ≡ 1
each_one f zero some most k lt = absurd (omega arith)
each_one f (suc n) some most k lt =
    let least_sum = at_least f n (λ j l. some j (omega arith)) in
    let here = some n (omega arith) in
    elim (cases_eq k n) [
      | inl same ↦ let last : f n ≡ 1 = omega arith in ap f same ∙ last
      | inr other ↦ each_one f n (λ j l. some j (omega arith)) (omega arith) k (omega arith)
    ]

-- where each number below their count stands among them, each stands once
pub AreNumbered-from_some : (ns : List ℕ) → ((k : ℕ) → k < length ns → 1 ≤ count_by (λ n. eqb n k) ns) → AreNumbered ns
AreNumbered-from_some ns some =
    let e = all_counted ns (length ns) in
    let most = count_by-le-length (λ m. ltb m (length ns)) ns in
    each_one (counts ns) (length ns) some (omega (arith, e, most))

sum_below-ones : (f : ℕ → ℕ) (n : ℕ) → ((k : ℕ) → k < n → f k ≡ 1) → sum_below f n ≡ n
sum_below-ones f zero ones = refl
sum_below-ones f (suc n) ones = let h = sum_below-ones f n (λ k lt. ones k (omega arith)) in let e = ones n (omega arith) in omega arith

all_pass : {X : Type 0} (p : X → Bool) (xs : List X) → length xs ≤ count_by p xs → All (λ x. p x ≡ true) xs
all_pass p [] le = All-nil (λ x. p x ≡ true)
all_pass p (x ∷ xs) le = go (p x) refl (all_pass p xs)
  where
    go : (b : Bool) → p x ≡ b → (length xs ≤ count_by p xs → All (λ x. p x ≡ true) xs) → All (λ x. p x ≡ true) (x ∷ xs)
    go true is rest =
        let e : count_by p (x ∷ xs) ≡ 1 + count_by p xs = count_by-cons p x xs ∙ ap (λ (b : Bool). cond b 1 0 + count_by p xs) is in
        All-cons (λ x. p x ≡ true) x xs is (rest (omega (arith, e)))
    go false is rest =
        let e : count_by p (x ∷ xs) ≡ 0 + count_by p xs = count_by-cons p x xs ∙ ap (λ (b : Bool). cond b 1 0 + count_by p xs) is in
        absurd (omega (arith, e, count_by-le-length p xs))

-- and none is as great as their count
pub AreNumbered-below : (ns : List ℕ) → AreNumbered ns → All (λ n. n < length ns) ns
AreNumbered-below ns numbered =
    let ones = sum_below-ones (counts ns) (length ns) numbered in
    let e = all_counted ns (length ns) in
    All-weaker (λ m. ltb m (length ns) ≡ true) (λ n. n < length ns) (λ m test. ltb-true m (length ns) test) ns (all_pass (λ m. ltb m (length ns)) ns (omega (arith, ones, e)))

-- some item has a number exactly where the count of it isn't 0
pub some_counted : {X : Type 0} (f : X → ℕ) (k : ℕ) (xs : List X) → list_any (λ x. eqb (f x) k) xs ≡ true → 1 ≤ count_by (λ n. eqb n k) (map f xs)
some_counted f k [] e = absurd cc
some_counted f k (x ∷ xs) e = go (eqb (f x) k) refl (some_counted f k xs)
  where
    go : (b : Bool) → eqb (f x) k ≡ b → (list_any (λ x. eqb (f x) k) xs ≡ true → 1 ≤ count_by (λ n. eqb n k) (map f xs)) → 1 ≤ count_by (λ n. eqb n k) (map f (x ∷ xs))
    go true is so = let c : count_by (λ n. eqb n k) (f x ∷ map f xs) ≡ 1 + count_by (λ n. eqb n k) (map f xs) = count_by-cons (λ n. eqb n k) (f x) (map f xs) ∙ ap (λ (b : Bool). cond b 1 0 + count_by (λ n. eqb n k) (map f xs)) is in omega (arith, c)
    go false is so =
        let rest : list_any (λ x. eqb (f x) k) xs ≡ true = rw is at e in
        let h = so rest in
        let c : count_by (λ n. eqb n k) (f x ∷ map f xs) ≡ 0 + count_by (λ n. eqb n k) (map f xs) = count_by-cons (λ n. eqb n k) (f x) (map f xs) ∙ ap (λ (b : Bool). cond b 1 0 + count_by (λ n. eqb n k) (map f xs)) is in
        omega (arith, c, h)

pub counted_some : {X : Type 0} (f : X → ℕ) (k : ℕ) (xs : List X) → 1 ≤ count_by (λ n. eqb n k) (map f xs) → list_any (λ x. eqb (f x) k) xs ≡ true
counted_some f k [] le = absurd (omega arith)
counted_some f k (x ∷ xs) le = go (eqb (f x) k) refl (counted_some f k xs)
  where
    go : (b : Bool) → eqb (f x) k ≡ b → (1 ≤ count_by (λ n. eqb n k) (map f xs) → list_any (λ x. eqb (f x) k) xs ≡ true) → list_any (λ x. eqb (f x) k) (x ∷ xs) ≡ true
    go true is so = rw is refl
    go false is so =
        let c : count_by (λ n. eqb n k) (f x ∷ map f xs) ≡ 0 + count_by (λ n. eqb n k) (map f xs) = count_by-cons (λ n. eqb n k) (f x) (map f xs) ∙ ap (λ (b : Bool). cond b 1 0 + count_by (λ n. eqb n k) (map f xs)) is in
        let h = so (omega (arith, c)) in
        rw (is, h) refl

-- ---- one and two that pass

module _ {Y : Type 0} (p : Y → Bool) where
  one_of : (ys : List Y) → 0 < count_by p ys → (k : ℕ) × (k < length ys) × ((d : Y) → p (get_or ys k d) ≡ true)
  one_of [] some = absurd (omega (arith, some))
  one_of (y ∷ ys) some = elim (p y) as (λ b. p y ≡ b → (k : ℕ) × (k < length (y ∷ ys)) × ((d : Y) → p (get_or (y ∷ ys) k d) ≡ true)) [
    | true ↦ λ is. (0, omega arith, λ d. is)
    | false ↦ λ is.
        let counted = sum_by-cons (λ y. cond (p y) 1 0) y ys ∙ ap (λ b. cond b 1 0 + count_by p ys) is in
        let rest = one_of ys (omega (arith, some, counted)) in
        (suc rest.0, omega (arith, rest.1), rest.2)
  ] refl

  pub two_of : (ys : List Y) → 1 < count_by p ys → (j : ℕ) × (k : ℕ) × (j < k) × (k < length ys) × ((d : Y) → p (get_or ys j d) ≡ true) × ((d : Y) → p (get_or ys k d) ≡ true)
  two_of [] more = absurd (omega (arith, more))
  two_of (y ∷ ys) more = elim (p y) as (λ b. p y ≡ b → (j : ℕ) × (k : ℕ) × (j < k) × (k < length (y ∷ ys)) × ((d : Y) → p (get_or (y ∷ ys) j d) ≡ true) × ((d : Y) → p (get_or (y ∷ ys) k d) ≡ true)) [
    | true ↦ λ is.
        let counted = sum_by-cons (λ y. cond (p y) 1 0) y ys ∙ ap (λ b. cond b 1 0 + count_by p ys) is in
        let rest = one_of ys (omega (arith, more, counted)) in
        (0, suc rest.0, omega arith, omega (arith, rest.1), (λ d. is), rest.2)
    | false ↦ λ is.
        let counted = sum_by-cons (λ y. cond (p y) 1 0) y ys ∙ ap (λ b. cond b 1 0 + count_by p ys) is in
        let rest = two_of ys (omega (arith, more, counted)) in
        (suc rest.0, suc rest.1, omega (arith, rest.2), omega (arith, rest.3), rest.4, rest.5)
  ] refl

  counted_once : (ys : List Y) (i : ℕ) (d : Y) → i < length ys → p (get_or ys i d) ≡ true → 0 < count_by p ys
  counted_once [] i d lt is = absurd (omega arith)
  counted_once (y ∷ ys) zero d lt is = let c = count_by-cons p y ys ∙ ap (λ (b : Bool). cond b 1 0 + count_by p ys) is in omega (arith, c)
  counted_once (y ∷ ys) (suc i) d lt is = let c = count_by-cons p y ys in let h = counted_once ys i d (omega arith) is in omega (arith, c, h)

  pub counted_twice : (ys : List Y) (i j : ℕ) (d : Y) → i < j → j < length ys → p (get_or ys i d) ≡ true → p (get_or ys j d) ≡ true → 1 < count_by p ys
  counted_twice [] i j d lt in' first second = absurd (omega arith)
  counted_twice (y ∷ ys) i zero d lt in' first second = absurd (omega arith)
  counted_twice (y ∷ ys) zero (suc j) d lt in' first second =
      let c = count_by-cons p y ys ∙ ap (λ (b : Bool). cond b 1 0 + count_by p ys) first in let h = counted_once ys j d (omega arith) second in omega (arith, c, h)
  counted_twice (y ∷ ys) (suc i) (suc j) d lt in' first second =
      let c = count_by-cons p y ys in let h = counted_twice ys i j d (omega arith) (omega arith) first second in omega (arith, c, h)
