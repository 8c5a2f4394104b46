-- Inputs that are looked at one after another: what a loop over them keeps.
use Rattle.std.proofs.Common.{◌≡◌, ℕ, ◌+◌, ◌<◌, ◌≤◌, Bool, true, false, cond, List, [], ◌∷◌, ◌++◌, length, filter, drop, get_or, refl, sym, ◌∙◌, ap, subst, inl, inr, append_assoc}
use Rattle.std.proofs.lemmas.List.{append-nil, drop_all, drop_more}
use Rattle.std.specs.Prelude.{IsTrue}
use Rattle.acfg_top.specs.Bodies.{IfRefused, IsAdded, input_of, inputs_of}
use Rattle.acfg_top.specs.declared.inputs.Input.{Input}
use Rattle.acfg_top.specs.declared.told.Halt.{Halt}
use Rattle.acfg_top.specs.declared.told.Halt.TheVariants as halt
use Rattle.acfg_top.specs.Inputs.{Given, AreAccepted, FirstRefused}

-- a refusal for one reason is one for another
pub refused_weaker : (one other : List ℕ → List ℕ → Type 0) (h : Halt) → ((file what : List ℕ) → one file what → other file what) → IfRefused one h → IfRefused other h
refused_weaker one other (halt.Refused told) weaker refused = (refused.0, refused.1, weaker refused.0 refused.1 refused.2, refused.3)
refused_weaker one other halt.OutOfMemory weaker refused = tt

module _ {X : Type 0} (accepts : Given → X → Type 0) (refuses : Given → List ℕ → Type 0) where
  -- these were accepted so far: what is made of the inputs that are left is made of all
  pub record Looks (all : List Given) (made : List X) (left : List Given) : Type 0 where
    pub accepted : (xs : List X) → AreAccepted accepts refuses left xs → AreAccepted accepts refuses all (made ++ xs)
    pub refused : (file what : List ℕ) → FirstRefused accepts refuses left file what → FirstRefused accepts refuses all file what

  pub looks_first : (all : List Given) → Looks all [] all
  looks_first all = record { accepted = λ xs here. here; refused = λ file what here. here }

  pub looks_more : (all : List Given) (made : List X) (input : Given) (left : List Given) (x : X) → accepts input x → Looks all made (input ∷ left) → Looks all (made ++ x ∷ []) left
  looks_more all made input left x accepted looks = record {
    accepted = λ xs rest. subst (AreAccepted accepts refuses all) (sym (append_assoc made (x ∷ []) xs)) (looks.accepted (x ∷ xs) (accepted, rest));
    refused = λ file what later. looks.refused file what (inr ((x, accepted), later));
  }

  pub looked : (all : List Given) (made : List X) → Looks all made [] → AreAccepted accepts refuses all made
  looked all made looks = subst (AreAccepted accepts refuses all) (append-nil made) (looks.accepted [] tt)

  -- those of the inputs that are looked at, where one was accepted or passed over
  pub looks_on : (all : List Given) (old new : List X) (test : Given → Bool) (input : Given) (left : List Given) → IsAdded accepts (test input) input old new
      → Looks all old (filter test (input ∷ left)) → Looks all new (filter test left)
  looks_on all old new test input left = go (test input) refl
    where
      go : (b : Bool) → test input ≡ b → IsAdded accepts b input old new → Looks all old (filter test (input ∷ left)) → Looks all new (filter test left)
      go true is added looks = subst (λ made. Looks all made (filter test left)) (sym added.2)
          (looks_more all old input (filter test left) added.0 added.1 (subst (Looks all old) (taken is) looks))
        where
          taken : test input ≡ true → filter test (input ∷ left) ≡ input ∷ filter test left
          taken is = ap (λ b. cond b (input ∷ filter test left) (filter test left)) is
      go false is added looks = subst (λ made. Looks all made (filter test left)) (sym added) (subst (Looks all old) (passed is) looks)
        where
          passed : test input ≡ false → filter test (input ∷ left) ≡ filter test left
          passed is = ap (λ b. cond b (input ∷ filter test left) (filter test left)) is

  pub looks_refused : (all : List Given) (made : List X) (test : Given → Bool) (input : Given) (left : List Given) (h : Halt) → Looks all made (filter test (input ∷ left))
      → IfRefused (λ file what. IsTrue (test input) × (file ≡ input.name) × refuses input what) h → IfRefused (FirstRefused accepts refuses all) h
  looks_refused all made test input left h looks = refused_weaker (λ file what. IsTrue (test input) × (file ≡ input.name) × refuses input what) (FirstRefused accepts refuses all) h (λ file what here.
      looks.refused file what (subst (λ inputs. FirstRefused accepts refuses inputs file what) (sym (taken here.0)) (inl (here.1, here.2))))
    where
      taken : test input ≡ true → filter test (input ∷ left) ≡ input ∷ filter test left
      taken is = ap (λ b. cond b (input ∷ filter test left) (filter test left)) is

  pub looks_stopped : (all : List Given) (made : List X) (input : Given) (left : List Given) (h : Halt) → Looks all made (input ∷ left) → IfRefused (λ file what. (file ≡ input.name) × refuses input what) h
      → IfRefused (FirstRefused accepts refuses all) h
  looks_stopped all made input left h looks = refused_weaker (λ file what. (file ≡ input.name) × refuses input what) (FirstRefused accepts refuses all) h (λ file what here. looks.refused file what (inl here))

-- the input at hand, and those behind it
pub at_input : (inputs : List Input) (i : ℕ) (input : Input) → input ≡ get_or inputs i input → i < length inputs → inputs_of (drop i inputs) ≡ input_of input ∷ inputs_of (drop (i + 1) inputs)
at_input inputs i input is low = ap inputs_of (drop_more inputs i input low) ∙ ap (λ input. input_of input ∷ inputs_of (drop (i + 1) inputs)) (sym is)

-- none is left at the end
pub none_left : (inputs : List Input) (i : ℕ) → length inputs ≤ i → inputs_of (drop i inputs) ≡ []
none_left inputs i high = ap inputs_of (drop_all i inputs high)

module _ {X : Type 0} (accepts : Given → X → Type 0) (refuses : Given → List ℕ → Type 0) (all : List Given) where
  -- the same at a place of the inputs
  pub stopped_at : (made : List X) (inputs : List Input) (i : ℕ) (input : Input) (h : Halt) → input ≡ get_or inputs i input → i < length inputs → Looks accepts refuses all made (inputs_of (drop i inputs))
      → IfRefused (λ file what. (file ≡ input.name.now) × refuses (input_of input) what) h → IfRefused (FirstRefused accepts refuses all) h
  stopped_at made inputs i input h is low looks = looks_stopped accepts refuses all made (input_of input) (inputs_of (drop (i + 1) inputs)) h (subst (Looks accepts refuses all made) (at_input inputs i input is low) looks)

  pub went_on : (made new : List X) (inputs : List Input) (i : ℕ) (input : Input) (x : X) → input ≡ get_or inputs i input → i < length inputs → Looks accepts refuses all made (inputs_of (drop i inputs)) → accepts (input_of input) x
      → new ≡ made ++ x ∷ [] → Looks accepts refuses all new (inputs_of (drop (i + 1) inputs))
  went_on made new inputs i input x is low looks accepted more = subst (λ made. Looks accepts refuses all made (inputs_of (drop (i + 1) inputs))) (sym more)
      (looks_more accepts refuses all made (input_of input) (inputs_of (drop (i + 1) inputs)) x accepted (subst (Looks accepts refuses all made) (at_input inputs i input is low) looks))

  pub ended : (made : List X) (inputs : List Input) (i : ℕ) → length inputs ≤ i → Looks accepts refuses all made (inputs_of (drop i inputs)) → AreAccepted accepts refuses all made
  ended made inputs i high looks = looked accepts refuses all made (subst (Looks accepts refuses all made) (none_left inputs i high) looks)

  module _ (test : Given → Bool) where
    pub stopped_among : (made : List X) (inputs : List Input) (i : ℕ) (input : Input) (h : Halt) → input ≡ get_or inputs i input → i < length inputs → Looks accepts refuses all made (filter test (inputs_of (drop i inputs)))
        → IfRefused (λ file what. IsTrue (test (input_of input)) × (file ≡ input.name.now) × refuses (input_of input) what) h → IfRefused (FirstRefused accepts refuses all) h
    stopped_among made inputs i input h is low looks = looks_refused accepts refuses all made test (input_of input) (inputs_of (drop (i + 1) inputs)) h
        (subst (λ left. Looks accepts refuses all made (filter test left)) (at_input inputs i input is low) looks)

    pub went_among : (made new : List X) (inputs : List Input) (i : ℕ) (input : Input) → input ≡ get_or inputs i input → i < length inputs → Looks accepts refuses all made (filter test (inputs_of (drop i inputs)))
        → IsAdded accepts (test (input_of input)) (input_of input) made new → Looks accepts refuses all new (filter test (inputs_of (drop (i + 1) inputs)))
    went_among made new inputs i input is low looks added = looks_on accepts refuses all made new test (input_of input) (inputs_of (drop (i + 1) inputs)) added
        (subst (λ left. Looks accepts refuses all made (filter test left)) (at_input inputs i input is low) looks)

    pub ended_among : (made : List X) (inputs : List Input) (i : ℕ) → length inputs ≤ i → Looks accepts refuses all made (filter test (inputs_of (drop i inputs))) → AreAccepted accepts refuses all made
    ended_among made inputs i high looks = looked accepts refuses all made (subst (λ left. Looks accepts refuses all made (filter test left)) (none_left inputs i high) looks)
