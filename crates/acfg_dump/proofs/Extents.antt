-- The bytes of pieces.
use Rattle.std.proofs.Common.{◌≡◌, ℕ, suc, zero, ◌+◌, ◌<◌, ◌≤◌, Bool, true, false, cond, List, [], ◌∷◌, ◌++◌, length, get_or, take, drop, map, Bor, subst, refl, sym, ap, ◌∙◌, arith}
use Rattle.std.specs.List.{slice_split, onto_first, AllZip}
use Rattle.std.specs.Prelude.{sum_by}
use Rattle.std.proofs.lemmas.List.Sums.{sum_by-cons, sum_by_push}
use Rattle.std.proofs.lemmas.List.{take_more, take-append-drop, get_or-map, length-map}
use Rattle.std.proofs.Math.Seq.{drop-cons}
use lib.Dec.{eqb}
use Rattle.acfg_base.specs.Bytes.{plus}
use Rattle.acfg_dump.specs.declared.conditions.Condition.{Condition}
use Rattle.acfg_dump.specs.Filter.{extent, pieces, IsCondition}

-- what texts are
abbrev pub words : List (Bor (List ℕ)) → List (List ℕ)
words texts = map (λ text. text.now) texts

extent_onto : (x : ℕ) (parts : List (List ℕ)) → 0 < length parts → extent (onto_first x parts) ≡ extent parts + 1
extent_onto x [] some = absurd (omega arith)
extent_onto x (part ∷ parts) some =
    let more = sum_by-cons (λ (text : List ℕ). length text + 1) (x ∷ part) parts in
    let less = sum_by-cons (λ (text : List ℕ). length text + 1) part parts in
    omega arith

some_onto : (x : ℕ) (parts : List (List ℕ)) → 0 < length (onto_first x parts)
some_onto x [] = omega arith
some_onto x (part ∷ parts) = omega arith

some_of : (b : Bool) (x : ℕ) (parts : List (List ℕ)) → 0 < length (cond b ([] ∷ parts) (onto_first x parts))
some_of true x parts = omega arith
some_of false x parts = some_onto x parts

some_pieces : (p : ℕ → Bool) (text : List ℕ) → 0 < length (slice_split p text)
some_pieces p [] = omega arith
some_pieces p (x ∷ xs) = some_of (p x) x (slice_split p xs)

extent_of : (b : Bool) (x : ℕ) (parts : List (List ℕ)) → 0 < length parts → extent (cond b ([] ∷ parts) (onto_first x parts)) ≡ extent parts + 1
extent_of true x parts some = let more = sum_by-cons (λ (text : List ℕ). length text + 1) [] parts in omega arith
extent_of false x parts some = extent_onto x parts some

-- a text's pieces have its bytes, and a separator between each two
extent_split : (p : ℕ → Bool) (text : List ℕ) → extent (slice_split p text) ≡ length text + 1
extent_split p [] = refl
extent_split p (x ∷ xs) =
    let this = extent_of (p x) x (slice_split p xs) (some_pieces p xs) in
    let rest = extent_split p xs in
    omega arith

pub extent_pieces : (separator : ℕ) (text : List ℕ) → extent (pieces separator text) ≡ length text + 1
extent_pieces separator text = extent_split (λ byte. eqb byte separator) text

-- the bytes of the pieces before one, and those up to it
pub before_piece : (xs : List (List ℕ)) (i : ℕ) (d : List ℕ) → i < length xs
    → (sum_by length (take i xs) + i ≡ extent (take i xs)) × (extent (take i xs) + length (get_or xs i d) + 1 ≤ extent xs)
before_piece [] i d within = absurd (omega arith)
before_piece (x ∷ xs) zero d within =
    let cons = sum_by-cons (λ (text : List ℕ). length text + 1) x xs in
    (refl, omega arith)
before_piece (x ∷ xs) (suc i) d within =
    let cons = sum_by-cons (λ (text : List ℕ). length text + 1) x xs in
    let taken = sum_by-cons (λ (text : List ℕ). length text + 1) x (take i xs) in
    let bytes = sum_by-cons (λ (text : List ℕ). length text) x (take i xs) in
    let rest = before_piece xs i d (omega arith) in
    let first = rest.0 in
    let second = rest.1 in
    (omega arith, omega arith)

-- a piece among the others
pub record IsPiece (texts : List (Bor (List ℕ))) (i : ℕ) (text : List ℕ) : Type 0 where
  pub place : sum_by length (take i (words texts)) + i ≡ extent (take i (words texts))
  pub room : extent (take i (words texts)) + length text + 1 ≤ extent (words texts)
  pub more : sum_by length (take (i + 1) (words texts)) ≡ sum_by length (take i (words texts)) + length text
  pub next : take (i + 1) (words texts) ≡ take i (words texts) ++ text ∷ []
  pub cut : words texts ≡ take i (words texts) ++ text ∷ drop (suc i) (words texts)

cut_piece : (xs : List (List ℕ)) (i : ℕ) (d : List ℕ) → i < length xs → xs ≡ take i xs ++ get_or xs i d ∷ drop (suc i) xs
cut_piece xs i d within = sym (take-append-drop i xs) ∙ ap (λ rest. take i xs ++ rest) (drop-cons xs i d within)

pub piece : (texts : List (Bor (List ℕ))) (i : ℕ) (d : Bor (List ℕ)) → i < length texts → IsPiece texts i (get_or texts i d).now
piece texts i d within =
    let xs = words texts in
    let same : get_or xs i [] ≡ (get_or texts i d).now = get_or-map (λ (text : Bor (List ℕ)). text.now) texts i d [] within in
    let inside : i < length xs = omega (arith, length-map texts (λ (text : Bor (List ℕ)). text.now)) in
    let facts = before_piece xs i [] inside in
    subst (IsPiece texts i) same (record {
      place = facts.0;
      room = facts.1;
      more = ap (sum_by length) (take_more xs i [] inside) ∙ sum_by_push length (take i xs) (get_or xs i []);
      next = take_more xs i [] inside;
      cut = cut_piece xs i [] inside;
    })

-- the bytes of alternatives are those of their texts
pub extents_each : (separator : ℕ) (xs : List (List ℕ)) → sum_by extent (map (pieces separator) xs) ≡ extent xs
extents_each separator [] = refl
extents_each separator (x ∷ xs) =
    let alternatives = sum_by-cons extent (pieces separator x) (map (pieces separator) xs) in
    let texts = sum_by-cons (λ (text : List ℕ). length text + 1) x xs in
    let this = extent_pieces separator x in
    let rest = extents_each separator xs in
    omega arith

-- conditions that were read of the first pieces, and the bytes of these
pub record AreRead (texts : List (List ℕ)) (conditions : List Condition) (before count : ℕ) : Type 0 where
  pub read : AllZip IsCondition (take count texts) conditions
  pub bytes : sum_by length (take count texts) ≡ before

-- alternatives likewise
pub record AreReadEach (texts : List (List ℕ)) (alternatives : List (List Condition)) (before count : ℕ) : Type 0 where
  pub read : AllZip (AllZip IsCondition) (map (pieces plus) (take count texts)) alternatives
  pub bytes : sum_by length (take count texts) ≡ before
