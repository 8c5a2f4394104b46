-- Values lie at the ends of their fields, as fields are joined.
use Rattle.std.proofs.Common.{◌≡◌, ℕ, ◌+◌, ◌-◌, ◌<◌, ◌≤◌, List, [], ◌∷◌, ◌++◌, length, get_or, drop, Some, slice_get, sym, ap, ◌∙◌, append_assoc, arith, inl, inr}
use Rattle.std.specs.Option.{option_map}
use Rattle.std.proofs.lemmas.Bool.{cases_lt}
use Rattle.std.proofs.lemmas.List.{append-nil, length-append, length-drop, get_or_append_left, get_or_push, get_or_past, get_or_default, get_or-map, drop_at, take_all, take-append-le, drop-append-le}
use Rattle.std.proofs.lemmas.Option.{slice_get_within, get_or_from_slice_get, slice_get-get_or, slice_get-map}
use Rattle.acfg_wire.specs.declared.field.Field.{Field}
use Rattle.acfg_wire.specs.Fields.{Value, varint, eight, delimited, four, WireField, IsField, Holds, BeginAt, content_of, end_of, LiesAtEnd, ValuesLieIn, fields_of, places_of, field_of}
use Rattle.acfg_wire.proofs.Joined.{spelling_long}

-- each value's bytes are the last ones of its field
abbrev pub ValuesLie : List ℕ → List WireField → List ℕ → Type 0
ValuesLie bytes fields places =
    (i : ℕ) (f : WireField) → slice_get fields i ≡ Some f
    → LiesAtEnd bytes (get_or places i 0) (end_of bytes places i) (content_of f.value)

-- a field's last bytes are its value's
pub record EndsWith (text content : List ℕ) : Type 0 where
  pub head : List ℕ
  pub parts : text ≡ head ++ content
  pub some : 1 ≤ length head

holds_at_end : (key text : List ℕ) (v : Value) → 1 ≤ length key → Holds text v → EndsWith (key ++ text) (content_of v)
holds_at_end key text (varint n) some h = record { head = key ++ text; parts = sym (append-nil (key ++ text)); some = omega (arith, length-append key text) }
holds_at_end key text (eight content) some h = record { head = key; parts = ap (λ (w : List ℕ). key ++ w) h.0; some = some }
holds_at_end key text (delimited content) some h =
    record {
      head = key ++ h.0;
      parts = ap (λ (w : List ℕ). key ++ w) h.2 ∙ sym (append_assoc key h.0 content);
      some = omega (arith, length-append key h.0);
    }
holds_at_end key text (four content) some h = record { head = key; parts = ap (λ (w : List ℕ). key ++ w) h.0; some = some }

field_ends : (text : List ℕ) (f : WireField) → IsField text f → EndsWith text (content_of f.value)
field_ends text f h = rw h.parts (holds_at_end h.key h.behind f.value (spelling_long h.key _ h.keyed.spells) h.holds)

-- what lies in the front still lies there
lies_on : (front rest : List ℕ) (place end : ℕ) (content : List ℕ) → end ≤ length front → LiesAtEnd front place end content → LiesAtEnd (front ++ rest) place end content
lies_on front rest place end content within h =
    let behind = h.behind in
    let start : end - length content ≤ length front = omega arith in
    let size : end - (end - length content) ≤ length (drop (end - length content) front) = omega (arith, length-drop (end - length content) front) in
    record {
      behind = behind;
      there = rw (drop-append-le (end - length content) front rest start, take-append-le (end - (end - length content)) (drop (end - length content) front) rest size) h.there;
    }

-- the last field's value lies at the end of all
lies_last : (front text content : List ℕ) → EndsWith text content → LiesAtEnd (front ++ text) (length front) (length (front ++ text)) content
lies_last front text content h =
    let some = h.some in
    let long : length (front ++ text) ≡ length front + (length h.head + length content) = omega (arith, length-append front text, ap length h.parts, length-append h.head content) in
    let parts : front ++ text ≡ (front ++ h.head) ++ content = ap (λ (w : List ℕ). front ++ w) h.parts ∙ sym (append_assoc front h.head content) in
    let start : length (front ++ h.head) ≡ length (front ++ text) - length content = omega (arith, length-append front h.head) in
    let back : drop (length (front ++ text) - length content) (front ++ text) ≡ content =
    ap (drop (length (front ++ text) - length content)) parts ∙ drop_at (front ++ h.head) content (length (front ++ text) - length content) start in
    record {
      behind = omega arith;
      there = rw back (take_all (length (front ++ text) - (length (front ++ text) - length content)) content (omega arith));
    }

pub values_none : ValuesLie [] [] []
values_none i f e = absurd (let lt = slice_get_within [] i f e in omega arith)

module _ (a text : List ℕ) (fs : List WireField) (f : WireField) (ps : List ℕ) (begin : BeginAt a fs ps) (lie : ValuesLie a fs ps) (field : IsField text f) where
  old_end : (i : ℕ) → i < length fs → end_of (a ++ text) (ps ++ length a ∷ []) i ≡ end_of a ps i
  old_end i lt =
      elim (cases_lt (i + 1) (length ps)) [
        | inl more ↦ get_or_append_left ps (length a ∷ []) (length (a ++ text)) (i + 1) more ∙ get_or_default ps (i + 1) (length (a ++ text)) (length a) more
        | inr last ↦
            let is : length ps ≡ i + 1 = omega (arith, begin.each) in
            get_or_push ps (length a) (length (a ++ text)) (i + 1) is ∙ sym (get_or_past ps (i + 1) (length a) (omega arith))
      ]

  end_within : (i : ℕ) → i < length fs → end_of a ps i ≤ length a
  end_within i lt =
      elim (cases_lt (i + 1) (length ps)) [
        | inl more ↦ rw (get_or_default ps (i + 1) (length a) 0 more) (let here = begin.within (i + 1) (omega (arith, begin.each)) in omega arith)
        | inr last ↦ rw (get_or_past ps (i + 1) (length a) last) (omega arith)
      ]

  new_end : (i : ℕ) → i ≡ length fs → end_of (a ++ text) (ps ++ length a ∷ []) i ≡ length (a ++ text)
  new_end i is = get_or_past (ps ++ length a ∷ []) (i + 1) (length (a ++ text)) (omega (arith, begin.each, length-append ps (length a ∷ [])))

  -- one more field behind those that were read
  pub ValuesLie-push : ValuesLie (a ++ text) (fs ++ f ∷ []) (ps ++ length a ∷ [])
  ValuesLie-push i g e =
      let within = slice_get_within (fs ++ f ∷ []) i g e in
      elim (cases_lt i (length fs)) [
        | inl old ↦
            let is : get_or fs i g ≡ g = sym (get_or_append_left fs (f ∷ []) g i old) ∙ get_or_from_slice_get (fs ++ f ∷ []) i g g e in
            let there = lie i g (slice_get-get_or fs i g old ∙ ap (λ (x : WireField). Some x) is) in
            let place : get_or (ps ++ length a ∷ []) i 0 ≡ get_or ps i 0 = get_or_append_left ps (length a ∷ []) 0 i (omega (arith, begin.each)) in
            rw (place, old_end i old) (lies_on a text (get_or ps i 0) (end_of a ps i) (content_of g.value) (end_within i old) there)
        | inr new ↦
            let last : i ≡ length fs = omega (arith, length-append fs (f ∷ [])) in
            let is : f ≡ g = sym (get_or_push fs f g i (sym last)) ∙ get_or_from_slice_get (fs ++ f ∷ []) i g g e in
            let place : get_or (ps ++ length a ∷ []) i 0 ≡ length a = get_or_push ps (length a) 0 i (omega (arith, begin.each)) in
            rw (place, new_end i last) (lies_last a text (content_of g.value) (rw is at (field_ends text f field)))
      ]

-- the same of the fields as the code has them
pub values_lie_in : (bytes : List ℕ) (read : List Field) → ValuesLie bytes (fields_of read) (places_of read) → ValuesLieIn bytes read
values_lie_in bytes read lie i f e =
    let within = slice_get_within read i f e in
    let here : slice_get (fields_of read) i ≡ Some (field_of f) = slice_get-map field_of read i ∙ ap (option_map field_of) e in
    let place : get_or (places_of read) i 0 ≡ f.place = get_or-map (λ g. g.place) read i f 0 within ∙ ap (λ (g : Field). g.place) (get_or_from_slice_get read i f f e) in
    rw place at (lie i (field_of f) here)
