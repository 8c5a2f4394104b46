-- A map that finds names at their places.
use Rattle.std.proofs.Common.{◌≡◌, ℕ, ◌<◌, List, [], ◌∷◌, ◌++◌, length, get_or, Option, Some, None, is_some, Bor, Bool, true, false, cond, refl, sym, ap, ◌∙◌, ⊎_elim, ◌⊎◌, inl, inr, true≢false, arith, length-append}
use Rattle.std.specs.Prelude.{Contains}
use Rattle.std.specs.HashMap.{HashMap, Updates}
use Rattle.std.specs.Map.{update}
use Rattle.std.specs.Str.{bytes_eq}
use Rattle.std.proofs.lemmas.Bool.{cases_lt}
use Rattle.std.proofs.lemmas.List.{get_or_default, get_or_append_left}
use Rattle.std.proofs.Math.Seq.{get_or-append_seam}
use Rattle.std.proofs.lemmas.Map.Text.{hash_map_updates_str}
use Rattle.std.proofs.lemmas.Slice.Eq.{bytes_eq-Decides}
use Rattle.acfg_decls.specs.Places.{Finds, at}

pub known : {S : Type 0} (places : HashMap (Bor (List ℕ)) ℕ S) (names : List (List ℕ)) (bytes : List ℕ) (i : ℕ) → Finds places names → at places bytes ≡ Some i → Contains names bytes
known places names bytes i finds found =
    let here = finds.only bytes i found in
    (i, here.0, get_or_default names i bytes [] here.0 ∙ here.1)

pub unknown : {S : Type 0} (places : HashMap (Bor (List ℕ)) ℕ S) (names : List (List ℕ)) (bytes : List ℕ) → Finds places names → at places bytes ≡ None → Contains names bytes → ⊥
unknown places names bytes finds missed (i, within, is) =
    let here : get_or names i [] ≡ bytes = get_or_default names i [] bytes within ∙ is in
    let found = finds.there i within in
    let contrary = sym missed ∙ ap (at places) (sym here) ∙ found in
    cc

abbrev pub text_eq : Bor (List ℕ) → Bor (List ℕ) → Bool
text_eq a b = bytes_eq a.now b.now

-- two texts are one, or they differ and the test says so
same_or_apart : (a b : List ℕ) → ((a ≡ b) × (bytes_eq a b ≡ true)) ⊎ ((a ≡ b → ⊥) × (bytes_eq a b ≡ false))
same_or_apart a b = elim (bytes_eq a b) as (λ t. bytes_eq a b ≡ t → ((a ≡ b) × (t ≡ true)) ⊎ ((a ≡ b → ⊥) × (t ≡ false))) [
  | true ↦ λ is. inl ((bytes_eq-Decides a b).0 is, refl)
  | false ↦ λ is. inr ((λ e. true≢false (sym ((bytes_eq-Decides a b).1 e) ∙ is)), refl)
] refl

-- a name more
pub finds_next : {S : Type 0} (places next : HashMap (Bor (List ℕ)) ℕ S) (names : List (List ℕ)) (key : Bor (List ℕ)) → Finds places names → at places key.now ≡ None
    → Updates text_eq places next key (Some (length names)) → Finds next (names ++ key.now ∷ [])
finds_next places next names key finds missed updates = record { there = there; only = only }
  where
    after : (bytes : List ℕ) → at next bytes ≡ update bytes_eq (at places) key.now (Some (length names)) bytes
    after = hash_map_updates_str key.now places next (Some (length names)) updates

    there : (i : ℕ) → i < length (names ++ key.now ∷ []) → at next (get_or (names ++ key.now ∷ []) i []) ≡ Some i
    there i within = ⊎_elim
        (λ old.
        let here : get_or (names ++ key.now ∷ []) i [] ≡ get_or names i [] = get_or_append_left names (key.now ∷ []) [] i old in
        let found = finds.there i old in
        let apart : bytes_eq key.now (get_or names i []) ≡ false = ⊎_elim (λ same. let contrary = sym missed ∙ ap (at places) same.0 ∙ found in cc) (λ differ. differ.1) (same_or_apart key.now (get_or names i [])) in
        ap (at next) here ∙ after (get_or names i []) ∙ ap (λ b. cond b (Some (length names)) (at places (get_or names i []))) apart ∙ found)
        (λ late.
        let last : i ≡ length names = omega (arith, length-append names (key.now ∷ [])) in
        let here : get_or (names ++ key.now ∷ []) i [] ≡ key.now = ap (λ n. get_or (names ++ key.now ∷ []) n []) last ∙ get_or-append_seam names key.now [] [] in
        let same : bytes_eq key.now key.now ≡ true = (bytes_eq-Decides key.now key.now).1 refl in
        ap (at next) here ∙ after key.now ∙ ap (λ b. cond b (Some (length names)) (at places key.now)) same ∙ ap Some (sym last))
        (cases_lt i (length names))

    only : (bytes : List ℕ) (i : ℕ) → at next bytes ≡ Some i → (i < length (names ++ key.now ∷ [])) × (get_or (names ++ key.now ∷ []) i [] ≡ bytes)
    only bytes i found = ⊎_elim
        (λ same.
        let is : Some (length names) ≡ Some i = ap (λ b. cond b (Some (length names)) (at places bytes)) (sym same.1) ∙ sym (after bytes) ∙ found in
        let last : length names ≡ i = cc in
        (omega (arith, length-append names (key.now ∷ [])), ap (λ n. get_or (names ++ key.now ∷ []) n []) (sym last) ∙ get_or-append_seam names key.now [] [] ∙ same.0))
        (λ differ.
        let old = finds.only bytes i (ap (λ b. cond b (Some (length names)) (at places bytes)) (sym differ.1) ∙ sym (after bytes) ∙ found) in
        (omega (arith, length-append names (key.now ∷ []), old.0), get_or_append_left names (key.now ∷ []) [] i old.0 ∙ old.1))
        (same_or_apart key.now bytes)

-- what the map had at a text before it was put in
pub had : {S : Type 0} (places : HashMap (Bor (List ℕ)) ℕ S) (names : List (List ℕ)) (bytes : List ℕ) (before : Option ℕ) → Finds places names → before ≡ at places bytes → is_some before ≡ true → Contains names bytes
had places names bytes (Some i) finds is some = known places names bytes i finds (sym is)
had places names bytes None finds is some = absurd (true≢false (sym some))

pub lacked : {S : Type 0} (places : HashMap (Bor (List ℕ)) ℕ S) (bytes : List ℕ) (before : Option ℕ) → before ≡ at places bytes → is_some before ≡ false → at places bytes ≡ None
lacked places bytes (Some i) is none = absurd (true≢false none)
lacked places bytes None is none = sym is
