-- Names joined by dots, from each byte and the one before it.
use Rattle.std.proofs.Common.{◌≡◌, ◌≢◌, ℕ, ◌+◌, ◌<◌, List, ◌∷◌, length, get_or, refl, sym, ap, ◌∙◌, ⊎_elim, ◌⊎◌, inl, inr, subst, arith, add-one, zero, suc, ◌-◌}
use Rattle.std.proofs.lemmas.Bool.{cases_lt}
use Rattle.std.proofs.lemmas.List.{get_or_past}
use Rattle.acfg_base.specs.Names.{dot, IsLetter, AreNames}
use Rattle.acfg_base.specs.Bodies.{MayFollow}

-- the byte before a place, and a dot before the first
abbrev pub before : List ℕ → ℕ → ℕ
before text i = get_or (dot ∷ text) i 0

pub before-next : (text : List ℕ) (i : ℕ) → before text (i + 1) ≡ get_or text i 0
before-next text i = rw add-one refl

-- each of the first n bytes may follow the one before it
abbrev pub FollowBelow : List ℕ → ℕ → Type 0
FollowBelow text n = (i : ℕ) → i < n → MayFollow (before text i) (get_or text i 0)

-- behind a byte stands another one, or the text ends
after : (text : List ℕ) → FollowBelow text (length text) → (i : ℕ) → i < length text → MayFollow (get_or text i 0) (get_or text (i + 1) 0) ⊎ (before text (length text) ≡ get_or text i 0)
after text each i within =
    ⊎_elim
    (λ more. inl (subst (λ b. MayFollow b (get_or text (i + 1) 0)) (before-next text i) (each (i + 1) more)))
    (λ last. let ends : length text ≡ i + 1 = omega arith in inr (ap (before text) ends ∙ before-next text i))
    (cases_lt (i + 1) (length text))

pub are_names : (text : List ℕ) → FollowBelow text (length text) → before text (length text) ≢ dot → AreNames text
are_names text each ends = record {
  begins = ⊎_elim (λ some. (each 0 some).behind_dot refl) (λ none. let empty : length text ≡ 0 = omega arith in absurd (ends (ap (before text) empty))) (cases_lt 0 (length text));
  bytes = λ i within. (each i within).bytes;
  behind_dot = λ i within is_dot. ⊎_elim (λ (f : MayFollow (get_or text i 0) (get_or text (i + 1) 0)). f.behind_dot is_dot) (λ e. absurd (ends (e ∙ is_dot))) (after text each i within);
  behind_underscore = λ i within is_underscore.
      ⊎_elim
      (λ more. (subst (λ b. MayFollow b (get_or text (i + 1) 0)) (before-next text i) (each (i + 1) more)).behind_underscore is_underscore)
      (λ last same. let past : get_or text (i + 1) 0 ≡ 0 = get_or_past text (i + 1) 0 last in omega arith)
      (cases_lt (i + 1) (length text));
}

-- and back
pub follow_below : (text : List ℕ) → AreNames text → FollowBelow text (length text)
follow_below text names zero within = record { bytes = names.bytes 0 within; behind_dot = λ _. names.begins; behind_underscore = λ e. absurd (omega arith) }
follow_below text names (suc i) within =
    let here : get_or text (i + 1) 0 ≡ get_or text (suc i) 0 = ap (λ n. get_or text n 0) (add-one i) in
    let inside : i < length text = omega arith in
    record {
      bytes = names.bytes (suc i) within;
      behind_dot = λ e. subst IsLetter here (names.behind_dot i inside e);
      behind_underscore = λ e same. names.behind_underscore i inside e (here ∙ same);
    }

pub ends_in_name : (text : List ℕ) → AreNames text → before text (length text) ≢ dot
ends_in_name text names ends =
    let some : 0 < length text = ⊎_elim (λ h. h) (λ none. let past : get_or text 0 0 ≡ 0 = get_or_past text 0 0 none in absurd (omega (arith, names.begins))) (cases_lt 0 (length text)) in
    let last : length text ≡ length text - 1 + 1 = omega arith in
    let is_dot : get_or text (length text - 1) 0 ≡ dot = sym (before-next text (length text - 1)) ∙ ap (before text) (sym last) ∙ ends in
    let past : get_or text (length text - 1 + 1) 0 ≡ 0 = get_or_past text (length text - 1 + 1) 0 (omega arith) in
    omega (arith, names.behind_dot (length text - 1) (omega arith) is_dot)
