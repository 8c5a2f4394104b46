-- Bytes that are put at the indexes of flags are those of the flags that a set lists.
use Rattle.std.proofs.Common.{◌≡◌, ◌⊎◌, ℕ, ◌+◌, ◌<◌, List, ◌++◌, get_or, set, length, take, drop, inl, inr, sym, ap, ◌∙◌, arith, take_all}
use Rattle.std.proofs.lemmas.Bool.{cases_eq}
use Rattle.std.proofs.lemmas.List.{append-nil, drop_all, get_or-set_other, get_or-set_same}
use Rattle.acfg_store.specs.Stamped.{ArePut}

-- a list that was lent whole and is given back is the new one
pub given_back : (n : ℕ) (new old : List ℕ) → length new ≡ n → length new ≡ length old → take n (new ++ drop (length new) old) ≡ new
given_back n new old all same =
    ap (λ (rest : List ℕ). take n (new ++ rest)) (drop_all (length new) old (omega (arith, same))) ∙ ap (take n) (append-nil new) ∙ take_all n new (omega (arith, all))

-- ---- one byte more

module _ (indexes bytes table new : List ℕ) (i : ℕ) (inside : get_or indexes i 0 < length table) (is : new ≡ set table (get_or indexes i 0) (get_or bytes i 0)) where
  at_new : (n : ℕ) → get_or new n 0 ≡ get_or (set table (get_or indexes i 0) (get_or bytes i 0)) n 0
  at_new n = ap (λ (t : List ℕ). get_or t n 0) is

  here : (n : ℕ) → n ≡ get_or indexes i 0 → get_or new n 0 ≡ get_or bytes i 0
  here n same = ap (λ (m : ℕ). get_or new m 0) same ∙ at_new (get_or indexes i 0) ∙ get_or-set_same table (get_or indexes i 0) (get_or bytes i 0) 0 inside

  pub put_more : ArePut indexes bytes i table → ArePut indexes bytes (i + 1) new
  put_more puts k less = at_place (cases_eq k i)
    where
      by_index : k < i → (get_or indexes k 0 ≡ get_or indexes i 0) ⊎ (get_or indexes k 0 ≡ get_or indexes i 0 → ⊥)
          → (j : ℕ) × (j < i + 1) × (get_or indexes j 0 ≡ get_or indexes k 0) × (get_or new (get_or indexes k 0) 0 ≡ get_or bytes j 0)
      by_index below (inl same) = (i, omega arith, sym same, here (get_or indexes k 0) same)
      by_index below (inr apart) =
          let old = puts k below in
          (old.0, omega (arith, old.1), old.2, at_new (get_or indexes k 0) ∙ get_or-set_other table (get_or indexes i 0) (get_or indexes k 0) (get_or bytes i 0) 0 apart ∙ old.3)

      at_place : (k ≡ i) ⊎ (k ≡ i → ⊥) → (j : ℕ) × (j < i + 1) × (get_or indexes j 0 ≡ get_or indexes k 0) × (get_or new (get_or indexes k 0) 0 ≡ get_or bytes j 0)
      at_place (inl same) = (i, omega arith, ap (λ (n : ℕ). get_or indexes n 0) (sym same), here (get_or indexes k 0) (ap (λ (n : ℕ). get_or indexes n 0) same))
      at_place (inr apart) = by_index (below k i less apart) (cases_eq (get_or indexes k 0) (get_or indexes i 0))
        where
          below : (k i : ℕ) → k < i + 1 → (k ≡ i → ⊥) → k < i
          below k i less apart = grind arith

pub put_all : (indexes bytes table : List ℕ) (i n : ℕ) → i ≡ n → ArePut indexes bytes i table → ArePut indexes bytes n table
put_all indexes bytes table i n same puts k less =
    let old = puts k (omega (arith, same, less)) in
    (old.0, omega (arith, same, old.1), old.2, old.3)

pub put_none : (indexes bytes table : List ℕ) → ArePut indexes bytes 0 table
put_none indexes bytes table k less = absurd (omega (arith, less))
