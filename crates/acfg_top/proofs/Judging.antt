-- What is judged has one outcome, and some outcome.
use Rattle.std.proofs.Common.{◌≡◌, ℕ, List, [], ◌∷◌, refl, sym, ◌∙◌, subst, inl, inr}
use Rattle.std.specs.Prelude.{Result, Ok, Err, codes}
use Rattle.acfg_top.specs.Inputs.{Given, Judged, WithInputs, AreAccepted, FirstRefused}
use Rattle.acfg_top.specs.Outcome.{Outcome, Refused}

-- an outcome can't fail to be there
abbrev pub Some_ : (Outcome → Type 0) → Type 0
Some_ gives = ((outcome : Outcome) → gives outcome → ⊥) → ⊥

-- ---- one judgement

-- refused in one way, or accepted as one thing, and never both
pub record IsOne {X : Type 0} (refuses : List ℕ → List ℕ → Type 0) (accepts : X → Type 0) : Type 0 where
  pub refusal : (file what other_file other : List ℕ) → refuses file what → refuses other_file other → (file ≡ other_file) × (what ≡ other)
  pub acceptance : (x y : X) → accepts x → accepts y → x ≡ y
  pub apart : (file what : List ℕ) (x : X) → refuses file what → accepts x → ⊥

pub judged_once : {X : Type 0} (refuses : List ℕ → List ℕ → Type 0) (accepts : X → Type 0) (follows : X → Outcome → Type 0) → IsOne refuses accepts
    → ((x : X) (a b : Outcome) → accepts x → follows x a → follows x b → a ≡ b) → (a b : Outcome) → Judged refuses accepts follows a → Judged refuses accepts follows b → a ≡ b
judged_once refuses accepts follows one next a b (inl (file, what, refused, is)) (inl (other_file, other, refused_too, is_too)) =
    let same = one.refusal file what other_file other refused refused_too in
    is ∙ (λ j. Refused (same.0 j) (same.1 j)) ∙ sym is_too
judged_once refuses accepts follows one next a b (inl (file, what, refused, is)) (inr (x, accepted, given)) = absurd (one.apart file what x refused accepted)
judged_once refuses accepts follows one next a b (inr (x, accepted, given)) (inl (file, what, refused, is)) = absurd (one.apart file what x refused accepted)
judged_once refuses accepts follows one next a b (inr (x, accepted, given)) (inr (y, accepted_too, given_too)) =
    next y a b accepted_too (subst (λ x. follows x a) (one.acceptance x y accepted accepted_too) given) given_too

pub some_judged : {X : Type 0} (refuses : List ℕ → List ℕ → Type 0) (accepts : X → Type 0) (follows : X → Outcome → Type 0)
    → (((file what : List ℕ) → refuses file what → ⊥) → ((x : X) → accepts x → ⊥) → ⊥) → ((x : X) → accepts x → Some_ (follows x)) → Some_ (Judged refuses accepts follows)
some_judged refuses accepts follows either next none =
    either (λ file what refused. none (Refused file what) (inl (file, what, refused, refl)))
    (λ x accepted. next x accepted (λ outcome given. none outcome (inr (x, accepted, given))))

-- ---- files

pub inputs_once : (found : Result (List Given) (List ℕ)) (follows : List Given → Outcome → Type 0) → ((inputs : List Given) (a b : Outcome) → follows inputs a → follows inputs b → a ≡ b)
    → (a b : Outcome) → WithInputs found follows a → WithInputs found follows b → a ≡ b
inputs_once (Err missing) follows next a b given given_too = given ∙ sym given_too
inputs_once (Ok inputs) follows next a b given given_too = next inputs a b given given_too

pub some_inputs : (found : Result (List Given) (List ℕ)) (follows : List Given → Outcome → Type 0) → ((inputs : List Given) → Some_ (follows inputs)) → Some_ (WithInputs found follows)
some_inputs (Err missing) follows next none = none (Refused missing (codes "missing")) refl
some_inputs (Ok inputs) follows next none = next inputs none

-- ---- inputs in order

-- an input is refused for one reason, or accepted as one thing, and never both; and it can't be that it is neither
pub record IsJudge {X : Type 0} (accepts : Given → X → Type 0) (refuses : Given → List ℕ → Type 0) : Type 0 where
  pub reason : (input : Given) (what other : List ℕ) → refuses input what → refuses input other → what ≡ other
  pub reading : (input : Given) (x y : X) → accepts input x → accepts input y → x ≡ y
  pub apart : (input : Given) (what : List ℕ) (x : X) → refuses input what → accepts input x → ⊥
  pub some : (input : Given) → ((what : List ℕ) → refuses input what → ⊥) → ((x : X) → accepts input x → ⊥) → ⊥

module _ {X : Type 0} (accepts : Given → X → Type 0) (refuses : Given → List ℕ → Type 0) (judge : IsJudge accepts refuses) where
  refused_once : (inputs : List Given) (file what other_file other : List ℕ) → FirstRefused accepts refuses inputs file what → FirstRefused accepts refuses inputs other_file other
      → (file ≡ other_file) × (what ≡ other)
  refused_once [] file what other_file other refused refused_too = absurd refused
  refused_once (input ∷ inputs) file what other_file other (inl here) (inl there) = (here.0 ∙ sym there.0, judge.reason input what other here.1 there.1)
  refused_once (input ∷ inputs) file what other_file other (inl here) (inr (accepted, later)) = absurd (judge.apart input what accepted.0 here.1 accepted.1)
  refused_once (input ∷ inputs) file what other_file other (inr (accepted, later)) (inl there) = absurd (judge.apart input other accepted.0 there.1 accepted.1)
  refused_once (input ∷ inputs) file what other_file other (inr (accepted, later)) (inr (accepted_too, later_too)) = refused_once inputs file what other_file other later later_too

  accepted_once : (inputs : List Given) (xs ys : List X) → AreAccepted accepts refuses inputs xs → AreAccepted accepts refuses inputs ys → xs ≡ ys
  accepted_once [] [] [] all all_too = refl
  accepted_once [] [] (y ∷ ys) all all_too = absurd all_too
  accepted_once [] (x ∷ xs) ys all all_too = absurd all
  accepted_once (input ∷ inputs) [] ys all all_too = absurd all
  accepted_once (input ∷ inputs) (x ∷ xs) [] all all_too = absurd all_too
  accepted_once (input ∷ inputs) (x ∷ xs) (y ∷ ys) all all_too =
      let first = judge.reading input x y all.0 all_too.0 in
      let rest = accepted_once inputs xs ys all.1 all_too.1 in
      λ j. first j ∷ rest j

  never_both : (inputs : List Given) (file what : List ℕ) (xs : List X) → FirstRefused accepts refuses inputs file what → AreAccepted accepts refuses inputs xs → ⊥
  never_both [] file what xs refused all = refused
  never_both (input ∷ inputs) file what [] refused all = all
  never_both (input ∷ inputs) file what (x ∷ xs) (inl here) all = judge.apart input what x here.1 all.0
  never_both (input ∷ inputs) file what (x ∷ xs) (inr (accepted, later)) all = never_both inputs file what xs later all.1

  pub in_order : (inputs : List Given) → IsOne (FirstRefused accepts refuses inputs) (AreAccepted accepts refuses inputs)
  in_order inputs = record { refusal = refused_once inputs; acceptance = accepted_once inputs; apart = never_both inputs }

  pub some_in_order : (inputs : List Given) → ((file what : List ℕ) → FirstRefused accepts refuses inputs file what → ⊥) → ((xs : List X) → AreAccepted accepts refuses inputs xs → ⊥) → ⊥
  some_in_order [] refused accepted = accepted [] tt
  some_in_order (input ∷ inputs) refused accepted =
      judge.some input (λ what here. refused input.name what (inl (refl, here)))
      (λ x here. some_in_order inputs (λ file what later. refused file what (inr ((x, here), later))) (λ xs rest. accepted (x ∷ xs) (here, rest)))
