-- Functions of names, changed at one name or two. Use these to turn clauses on single names into an equation of
-- files: after a write that was done,
--     updated first after name (Some bytes) file others : after ≡ update bytes_eq first name (Some bytes)
use Rattle.std.proofs.Common.{◌≡◌, ◌≢◌, ◌⊎◌, inl, inr, ⊎_elim, ℕ, List, Option, None, refl, sym, ◌∙◌, ap}
use Rattle.std.proofs.lemmas.Bool.{cases_Bool, false_from_ne_true}
use Rattle.std.proofs.lemmas.Slice.Eq.{bytes_eq-Decides}
use Rattle.std.specs.Map.{update}
use Rattle.std.specs.Str.{bytes_eq}

-- two names are the same or they aren't
pub same_name : (name other : List ℕ) → (other ≡ name) ⊎ (other ≢ name)
same_name name other = elim (cases_Bool (bytes_eq name other)) [
  | inl same ↦ inl (sym ((bytes_eq-Decides name other).0 same))
  | inr apart ↦ inr (λ same. cc (apart, (bytes_eq-Decides name other).1 (sym same)))
]

-- functions with the same answers are the same
pub functions : {A B : Type 0} (f g : A → B) → ((x : A) → f x ≡ g x) → f ≡ g
functions f g same = λ i x. same x i

module _ {X : Type 0} (f : List ℕ → Option X) (name : List ℕ) (value : Option X) where
  pub update_here : update bytes_eq f name value name ≡ value
  update_here = rw ((bytes_eq-Decides name name).1 refl) refl

  pub update_apart : (other : List ℕ) → other ≢ name → update bytes_eq f name value other ≡ f other
  update_apart other apart =
      rw (false_from_ne_true (bytes_eq name other) (λ same. apart (sym ((bytes_eq-Decides name other).0 same)))) refl

  -- an update that is undone
  pub update_back : (before : Option X) → f name ≡ before → update bytes_eq (update bytes_eq f name value) name before ≡ f
  update_back before was = functions _ f each
    where
      each : (other : List ℕ) → update bytes_eq (update bytes_eq f name value) name before other ≡ f other
      each other = elim (cases_Bool (bytes_eq name other)) [
        | inl same ↦ rw same (sym was ∙ ap f ((bytes_eq-Decides name other).0 same))
        | inr apart ↦ rw apart refl
      ]

  -- an update to what is there
  pub update_same : f name ≡ value → update bytes_eq f name value ≡ f
  update_same was = functions _ f each
    where
      each : (other : List ℕ) → update bytes_eq f name value other ≡ f other
      each other = elim (cases_Bool (bytes_eq name other)) [
        | inl same ↦ rw same (sym was ∙ ap f ((bytes_eq-Decides name other).0 same))
        | inr apart ↦ rw apart refl
      ]

  -- of two updates the later one counts
  pub update_twice : (later : Option X) → update bytes_eq (update bytes_eq f name value) name later ≡ update bytes_eq f name later
  update_twice later = functions _ (update bytes_eq f name later) each
    where
      each : (other : List ℕ) → update bytes_eq (update bytes_eq f name value) name later other ≡ update bytes_eq f name later other
      each other = elim (cases_Bool (bytes_eq name other)) [
        | inl same ↦ rw same refl
        | inr apart ↦ rw apart refl
      ]

-- What differs at one name alone is the one function with an update.
pub updated : {X : Type 0} (first after : List ℕ → Option X) (name : List ℕ) (value : Option X) → after name ≡ value → ((other : List ℕ) → (other ≡ name → ⊥) → after other ≡ first other) → after ≡ update bytes_eq first name value
updated first after name value here others = functions after (update bytes_eq first name value) each
  where
    each : (other : List ℕ) → after other ≡ update bytes_eq first name value other
    each other = elim (same_name name other) [
      | inl same ↦ ap after same ∙ here ∙ sym (ap (update bytes_eq first name value) same ∙ update_here first name value)
      | inr apart ↦ others other apart ∙ sym (update_apart first name value other apart)
    ]

-- So is what was moved from one name to another.
pub moved : {X : Type 0} (first after : List ℕ → Option X) (from to : List ℕ) → after to ≡ first from → after from ≡ None
    → ((other : List ℕ) → ((other ≡ from) ⊎ (other ≡ to) → ⊥) → after other ≡ first other) → after ≡ update bytes_eq (update bytes_eq first from None) to (first from)
moved first after from to there gone others = functions after (update bytes_eq (update bytes_eq first from None) to (first from)) each
  where
    each : (other : List ℕ) → after other ≡ update bytes_eq (update bytes_eq first from None) to (first from) other
    each other = elim (same_name to other) [
      | inl same ↦ ap after same ∙ there ∙ sym (ap (update bytes_eq (update bytes_eq first from None) to (first from)) same ∙ update_here (update bytes_eq first from None) to (first from))
      | inr not_to ↦ elim (same_name from other) as (λ _. after other ≡ update bytes_eq (update bytes_eq first from None) to (first from) other) [
        | inl here ↦ ap after here ∙ gone ∙ sym (update_apart (update bytes_eq first from None) to (first from) other not_to ∙ ap (update bytes_eq first from None) here ∙ update_here first from None)
        | inr not_from ↦ others other (λ either. ⊎_elim not_from not_to either)
            ∙ sym (update_apart (update bytes_eq first from None) to (first from) other not_to ∙ update_apart first from None other not_from)
      ]
    ]
