-- The tests of names, byte by byte, are the names of `acfg_base`, by all positions.
use Rattle.std.proofs.Common.{◌≡◌, ◌≢◌, ℕ, zero, suc, ◌<◌, ◌≤◌, ◌⊎◌, Bool, true, false, leb, eqb, not, ◌&&◌, ◌||◌, List, [], ◌∷◌, length, get_or, refl, arith, add-one, inl, inr}
use Rattle.std.specs.Prelude.{Contains}
use Rattle.std.specs.List.{list_any}
use Rattle.std.specs.Bool.{Decides}
use Rattle.std.specs.Str.{IsAscii}
use Rattle.std.proofs.lemmas.Bool.{cases_lt}
use Rattle.std.proofs.lemmas.Bool.Decides.{nat_tests}
use Rattle.std.proofs.lemmas.List.{get_or_past}
use Rattle.acfg_base.specs.Names.{IsLetter, IsNameByte, AreNames, IsName, IsPackage, IsContainer}
use Rattle.acfg_views.specs.Tests.{may_follow, names_go_on, are_names, is_dot, is_container, is_package, is_name}

-- what a byte's place behind another one asks of it
pub record Follows (previous byte : ℕ) : Type 0 where
  pub bytes : IsNameByte byte ⊎ (byte ≡ 46)
  pub behind_dot : previous ≡ 46 → IsLetter byte
  pub behind_underscore : previous ≡ 95 → byte ≢ 95

follows : (previous byte : ℕ) → may_follow previous byte ≡ true → Follows previous byte
follows previous byte e = record {
  bytes = grind (arith, nat_tests);
  behind_dot = λ d. grind (arith, nat_tests);
  behind_underscore = λ u same. grind (arith, nat_tests);
}

may : (previous byte : ℕ) → Follows previous byte → may_follow previous byte ≡ true
may previous byte f = let a = f.bytes in let b = f.behind_dot in let c = f.behind_underscore in grind (arith, nat_tests)

-- names go on with the text behind a byte
pub record GoOn (previous : ℕ) (text : List ℕ) : Type 0 where
  pub begins : previous ≡ 46 → IsLetter (get_or text 0 0)
  pub apart : previous ≡ 95 → get_or text 0 0 ≢ 95
  pub bytes : (i : ℕ) → i < length text → IsNameByte (get_or text i 0) ⊎ (get_or text i 0 ≡ 46)
  pub behind_dot : (i : ℕ) → i < length text → get_or text i 0 ≡ 46 → IsLetter (get_or text (suc i) 0)
  pub behind_underscore : (i : ℕ) → i < length text → get_or text i 0 ≡ 95 → get_or text (suc i) 0 ≢ 95

both : (a b : Bool) → (a && b) ≡ true → (a ≡ true) × (b ≡ true)
both true true e = (refl, refl)
both true false e = absurd cc
both false b e = absurd cc

and : (a b : Bool) → a ≡ true → b ≡ true → (a && b) ≡ true
and a b p q = rw (p, q) refl

go_on : (previous : ℕ) (text : List ℕ) → names_go_on previous text ≡ true → GoOn previous text
go_on previous [] e = record {
  begins = λ d. grind (arith, nat_tests);
  apart = λ u same. omega arith;
  bytes = λ i lt. absurd (omega arith);
  behind_dot = λ i lt. absurd (omega arith);
  behind_underscore = λ i lt. absurd (omega arith);
}
go_on previous (b ∷ text) e =
    let p = both (may_follow previous b) (names_go_on b text) e in
    let here = follows previous b p.0 in
    let rest = go_on b text p.1 in
    record { begins = here.behind_dot; apart = here.behind_underscore; bytes = bytes here rest; behind_dot = dots rest; behind_underscore = underscores rest }
  where
    bytes : Follows previous b → GoOn b text → (i : ℕ) → i < length (b ∷ text) → IsNameByte (get_or (b ∷ text) i 0) ⊎ (get_or (b ∷ text) i 0 ≡ 46)
    bytes here rest zero lt = here.bytes
    bytes here rest (suc i) lt = rest.bytes i (omega arith)

    dots : GoOn b text → (i : ℕ) → i < length (b ∷ text) → get_or (b ∷ text) i 0 ≡ 46 → IsLetter (get_or (b ∷ text) (suc i) 0)
    dots rest zero lt = rest.begins
    dots rest (suc i) lt = rest.behind_dot i (omega arith)

    underscores : GoOn b text → (i : ℕ) → i < length (b ∷ text) → get_or (b ∷ text) i 0 ≡ 95 → get_or (b ∷ text) (suc i) 0 ≢ 95
    underscores rest zero lt = rest.apart
    underscores rest (suc i) lt = rest.behind_underscore i (omega arith)

goes_on : (previous : ℕ) (text : List ℕ) → GoOn previous text → names_go_on previous text ≡ true
goes_on previous [] g = let b = g.begins in let not_dot : previous ≢ 46 = λ e. omega (arith, b e) in grind (arith, nat_tests)
goes_on previous (b ∷ text) g =
    let here : Follows previous b = record { bytes = g.bytes 0 (omega arith); behind_dot = g.begins; behind_underscore = g.apart } in
    and (may_follow previous b) (names_go_on b text) (may previous b here) (goes_on b text (record {
      begins = g.behind_dot 0 (omega arith);
      apart = g.behind_underscore 0 (omega arith);
      bytes = λ i lt. g.bytes (suc i) (omega arith);
      behind_dot = λ i lt. g.behind_dot (suc i) (omega arith);
      behind_underscore = λ i lt. g.behind_underscore (suc i) (omega arith);
    }))

pub are_names-decides : (text : List ℕ) → Decides (are_names text) (AreNames text)
are_names-decides text = (
  λ e. let g = go_on 46 text e in record {
    begins = g.begins refl;
    bytes = g.bytes;
    behind_dot = λ i lt d. rw add-one (g.behind_dot i lt d);
    behind_underscore = λ i lt u. rw add-one (g.behind_underscore i lt u);
  },
  λ n. goes_on 46 text (record {
    begins = λ _. n.begins;
    apart = λ e. absurd (omega arith);
    bytes = n.bytes;
    behind_dot = λ i lt d. rw add-one at (n.behind_dot i lt d);
    behind_underscore = λ i lt u. rw add-one at (n.behind_underscore i lt u);
  }),
)

-- ---- a dot

has_dot : (text : List ℕ) → list_any is_dot text ≡ true → Contains text 46
has_dot [] e = absurd cc
has_dot (b ∷ text) e = elim (cases b) [
  | inl here ↦ (0, omega arith, here)
  | inr other ↦
      let later : list_any is_dot text ≡ true = rw other at e in
      let c = has_dot text later in
      (suc c.0, omega (arith, c.1), c.2)
]
  where
    cases : (b : ℕ) → (b ≡ 46) ⊎ (eqb b 46 ≡ false)
    cases b = grind (arith, nat_tests)

dot_found : (text : List ℕ) (k : ℕ) → k < length text → get_or text k 46 ≡ 46 → list_any is_dot text ≡ true
dot_found [] k lt e = absurd (omega arith)
dot_found (b ∷ text) zero lt e = rw e refl
dot_found (b ∷ text) (suc k) lt e = rw (dot_found text k (omega arith) e) (any_last (eqb b 46))
  where
    any_last : (a : Bool) → (a || true) ≡ true
    any_last true = refl
    any_last false = refl

pub dot-decides : (text : List ℕ) → Decides (list_any is_dot text) (Contains text 46)
dot-decides text = (has_dot text, λ c. dot_found text c.0 c.1 c.2)

-- ---- the three

short : (n most : ℕ) → Decides (leb n most) (n ≤ most)
short n most = (λ e. grind (arith, nat_tests), λ h. grind (arith, nat_tests))

pub is_container-decides : (text : List ℕ) → Decides (is_container text) (IsContainer text)
unfolding is_container
is_container-decides text = (
  λ e. let p = both _ _ e in record { bound = (short _ _).0 p.0; names = (are_names-decides text).0 p.1 },
  λ c. and _ _ ((short _ _).1 c.bound) ((are_names-decides text).1 c.names),
)

pub is_package-decides : (text : List ℕ) → Decides (is_package text) (IsPackage text)
unfolding is_package
is_package-decides text = (
  λ e. let p = both _ _ e in let q = both _ _ p.0 in record { bound = (short _ _).0 q.0; names = (are_names-decides text).0 q.1; more = (dot-decides text).0 p.1 },
  λ c. and _ _ (and _ _ ((short _ _).1 c.bound) ((are_names-decides text).1 c.names)) ((dot-decides text).1 c.more),
)

pub is_name-decides : (text : List ℕ) → Decides (is_name text) (IsName text)
unfolding is_name
is_name-decides text = (
  λ e. let p = both _ _ e in let q = both _ _ p.0 in record { bound = (short _ _).0 q.0; names = (are_names-decides text).0 q.1; one = λ c. not_both (list_any is_dot text) p.1 ((dot-decides text).1 c) },
  λ c. and _ _ (and _ _ ((short _ _).1 c.bound) ((are_names-decides text).1 c.names)) (no_dot (list_any is_dot text) (λ e. c.one ((dot-decides text).0 e))),
)
  where
    not_both : (b : Bool) → not b ≡ true → b ≡ true → ⊥
    not_both true p q = absurd cc
    not_both false p q = absurd cc

    no_dot : (b : Bool) → (b ≡ true → ⊥) → not b ≡ true
    no_dot true h = absurd (h refl)
    no_dot false h = refl

-- names are ASCII
pub AreNames-ascii : (text : List ℕ) → AreNames text → IsAscii text
AreNames-ascii text names i = elim (cases_lt i (length text)) [
  | inl lt ↦ let b = names.bytes i lt in grind arith
  | inr past ↦ rw (get_or_past text i 0 past) (omega arith)
]
