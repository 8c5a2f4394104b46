-- A map's buckets as numbers of four bytes, one after another.
use Rattle.std.proofs.Common.{◌≡◌, ℕ, zero, suc, ◌+◌, ◌*◌, ◌^◌, ◌<◌, ◌≤◌, List, [], ◌∷◌, ◌++◌, length, get_or, take, drop, All, refl, sym, ap, ◌∙◌, append_assoc, arith}
use Rattle.std.specs.List.{flat_map}
use Rattle.std.proofs.lemmas.List.{length-append, length-drop, take-append-drop, drop_at, drop-drop}
use Rattle.std.proofs.lemmas.List.Elements.{All-nil, All-cons}
use Rattle.acfg_views.specs.Fields.{IsBytes, numbers, number, number_of}
use Rattle.acfg_views.proofs.Exact.{IsBytes-drop, IsBytes-take, length-number, four_bytes, number_of-take, number_of-number, number_of-lt}

pub length-numbers : (k : ℕ) (bytes : List ℕ) → length (numbers k bytes) ≡ k
length-numbers zero bytes = refl
length-numbers (suc k) bytes = let h = length-numbers k (drop 4 bytes) in omega arith

later : (k : ℕ) (bytes : List ℕ) → drop (4 * suc k) bytes ≡ drop (4 * k) (drop 4 bytes)
later k bytes = let e : 4 * suc k ≡ 4 + 4 * k = omega arith in ap (λ (n : ℕ). drop n bytes) e ∙ sym (drop-drop (4 * k) 4 bytes)

-- they are spelled by the bytes
pub numbers-spelled : (k : ℕ) (bytes : List ℕ) → IsBytes bytes → 4 * k ≤ length bytes → flat_map (number 4) (numbers k bytes) ++ drop (4 * k) bytes ≡ bytes
numbers-spelled zero bytes fits le = refl
numbers-spelled (suc k) bytes fits le =
    let front : number 4 (number_of 4 bytes) ≡ take 4 bytes =
    ap (number 4) (sym (number_of-take 4 bytes (omega arith))) ∙ four_bytes (take 4 bytes) (length_front bytes 4 (omega arith)) (IsBytes-take 4 bytes fits) in
    let rest = numbers-spelled k (drop 4 bytes) (IsBytes-drop 4 bytes fits) (omega (arith, length-drop 4 bytes)) in
    let behind : drop (4 * suc k) bytes ≡ drop (4 * k) (drop 4 bytes) = later k bytes in
    append_assoc (number 4 (number_of 4 bytes)) (flat_map (number 4) (numbers k (drop 4 bytes))) (drop (4 * suc k) bytes)
    ∙ rw (behind, rest, front) (take-append-drop 4 bytes)
  where
    length_front : (bytes : List ℕ) (n : ℕ) → n ≤ length bytes → length (take n bytes) ≡ n
    length_front bytes n le = omega (arith, ap length (take-append-drop n bytes), length-append (take n bytes) (drop n bytes), length-drop n bytes)

-- and what spells numbers reads as them
pub numbers-again : (ns : List ℕ) (rest : List ℕ) → All (λ n. n < 2 ^ 32) ns → numbers (length ns) (flat_map (number 4) ns ++ rest) ≡ ns
numbers-again [] rest fits = refl
numbers-again (n ∷ ns) rest fits =
    let regrouped : flat_map (number 4) (n ∷ ns) ++ rest ≡ number 4 n ++ (flat_map (number 4) ns ++ rest) = append_assoc (number 4 n) (flat_map (number 4) ns) rest in
    let first : number_of 4 (flat_map (number 4) (n ∷ ns) ++ rest) ≡ n = ap (number_of 4) regrouped ∙ number_of-number 4 n _ (fits 0 n (omega arith)) in
    let behind : drop 4 (flat_map (number 4) (n ∷ ns) ++ rest) ≡ flat_map (number 4) ns ++ rest = ap (drop 4) regrouped ∙ drop_at (number 4 n) _ 4 (length-number 4 n) in
    let others = numbers-again ns rest (λ k d lt. fits (suc k) d (omega arith)) in
    rw (first, behind, others) refl

pub numbers-at : (k i : ℕ) (bytes : List ℕ) → i < k → get_or (numbers k bytes) i 0 ≡ number_of 4 (drop (4 * i) bytes)
numbers-at zero i bytes lt = absurd (omega arith)
numbers-at (suc k) zero bytes lt = refl
numbers-at (suc k) (suc i) bytes lt = numbers-at k i (drop 4 bytes) (omega arith) ∙ ap (number_of 4) (sym (later i bytes))

pub numbers-below : (k : ℕ) (bytes : List ℕ) → IsBytes bytes → All (λ n. n < 2 ^ 32) (numbers k bytes)
numbers-below zero bytes fits = All-nil (λ n. n < 2 ^ 32)
numbers-below (suc k) bytes fits = All-cons (λ n. n < 2 ^ 32) (number_of 4 bytes) (numbers k (drop 4 bytes)) (number_of-lt 4 bytes fits) (numbers-below k (drop 4 bytes) (IsBytes-drop 4 bytes fits))
