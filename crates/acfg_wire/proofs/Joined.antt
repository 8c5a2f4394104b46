-- Fields joined behind one another.
use Rattle.std.proofs.Common.{◌≡◌, ℕ, ◌<◌, ◌≤◌, List, [], ◌∷◌, ◌++◌, length, get_or, take, drop, refl, sym, ap, ◌∙◌, append_assoc, arith, inl, inr}
use Rattle.std.proofs.lemmas.Bool.{cases_lt}
use Rattle.std.proofs.lemmas.List.{append-nil, length-append, get_or_append_left, get_or_push, take_at, drop_at, take-append-le, drop-append-le}
use Rattle.acfg_wire.specs.Varint.{IsSpelling}
use Rattle.acfg_wire.specs.Fields.{WireField, IsField, IsFields, BeginAt}

pub IsFields-append : (a b : List ℕ) (fs gs : List WireField) → IsFields a fs → IsFields b gs → IsFields (a ++ b) (fs ++ gs)
IsFields-append a b [] gs h g = rw h g
IsFields-append a b (f ∷ fs) gs (text, (rest, parts, field, fields)) g =
    (text, (rest ++ b, ap (λ (w : List ℕ). w ++ b) parts ∙ append_assoc text rest b, field, IsFields-append rest b fs gs fields g))

pub one_field : (text : List ℕ) (f : WireField) → IsField text f → IsFields text (f ∷ [])
one_field text f h = (text, ([], sym (append-nil text), h, refl))

pub spelling_long : (bytes : List ℕ) (n : ℕ) → IsSpelling bytes n → 1 ≤ length bytes
spelling_long [] n h = absurd h
spelling_long (b ∷ bs) n h = omega arith

-- a field takes a byte at least
pub field_long : (text : List ℕ) (f : WireField) → IsField text f → 1 ≤ length text
field_long text f h = let key = spelling_long h.key _ h.keyed.spells in omega (arith, ap length h.parts, length-append h.key h.behind)

module _ (a text : List ℕ) (fs : List WireField) (f : WireField) (ps : List ℕ) (begin : BeginAt a fs ps) (fields : IsFields a fs) (field : IsField text f) where
  -- the place of a field, as the list of places goes on
  old_place : (i : ℕ) → i < length fs → get_or (ps ++ length a ∷ []) i 0 ≡ get_or ps i 0
  old_place i lt = get_or_append_left ps (length a ∷ []) 0 i (omega (arith, begin.each))

  new_place : (i : ℕ) → i ≡ length fs → get_or (ps ++ length a ∷ []) i 0 ≡ length a
  new_place i is = get_or_push ps (length a) 0 i (omega (arith, begin.each))

  last_one : (i : ℕ) → i < length (fs ++ f ∷ []) → length fs ≤ i → i ≡ length fs
  last_one i lt le = omega (arith, length-append fs (f ∷ []))

  within : (i : ℕ) → i < length (fs ++ f ∷ []) → get_or (ps ++ length a ∷ []) i 0 < length (a ++ text)
  within i lt =
      elim (cases_lt i (length fs)) [
        | inl old ↦ rw (old_place i old) (omega (arith, begin.within i old, length-append a text))
        | inr new ↦ rw (new_place i (last_one i lt new)) (omega (arith, field_long text f field, length-append a text))
      ]

  before : (i : ℕ) → i < length (fs ++ f ∷ []) → IsFields (take (get_or (ps ++ length a ∷ []) i 0) (a ++ text)) (take i (fs ++ f ∷ []))
  before i lt =
      elim (cases_lt i (length fs)) [
        | inl old ↦
            let here = begin.within i old in
            rw (old_place i old, take-append-le (get_or ps i 0) a text (omega arith), take-append-le i fs (f ∷ []) (omega arith)) (begin.before i old)
        | inr new ↦
            let is = last_one i lt new in
            rw (new_place i is, take_at a text (length a) refl, take_at fs (f ∷ []) i (sym is)) fields
      ]

  onward : (i : ℕ) → i < length (fs ++ f ∷ []) → IsFields (drop (get_or (ps ++ length a ∷ []) i 0) (a ++ text)) (drop i (fs ++ f ∷ []))
  onward i lt =
      elim (cases_lt i (length fs)) [
        | inl old ↦
            let here = begin.within i old in
            rw (old_place i old, drop-append-le (get_or ps i 0) a text (omega arith), drop-append-le i fs (f ∷ []) (omega arith))
            (IsFields-append (drop (get_or ps i 0) a) text (drop i fs) (f ∷ []) (begin.onward i old) (one_field text f field))
        | inr new ↦
            let is = last_one i lt new in
            rw (new_place i is, drop_at a text (length a) refl, drop_at fs (f ∷ []) i (sym is)) (one_field text f field)
      ]

  -- one more field behind those that were read
  pub BeginAt-push : BeginAt (a ++ text) (fs ++ f ∷ []) (ps ++ length a ∷ [])
  BeginAt-push = record {
    each = omega (arith, begin.each, length-append ps (length a ∷ []), length-append fs (f ∷ []));
    within = within;
    before = before;
    onward = onward;
  }
