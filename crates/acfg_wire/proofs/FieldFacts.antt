-- A field as a relation and as what is read: each says the other.
use Rattle.std.proofs.Common.{◌≡◌, ℕ, ◌+◌, ◌*◌, ◌/◌, ◌%◌, ◌<◌, ◌≤◌, false, cond, ltb, eqb, List, ◌++◌, length, take, drop, Result, Ok, Err, refl, sym, ap, subst, ◌∙◌, append_assoc, arith, inl, inr}
use Rattle.std.proofs.lemmas.Bool.{ltb-false, ltb-true, le-ltb, eqb-true, eqb-false, ne_eqb}
use Rattle.std.proofs.lemmas.List.{take_at, drop_at, take-append-drop, length-append, length-take, get_or-append-add}
use Rattle.acfg_wire.specs.declared.fault.Fault.{Fault}
use Rattle.acfg_wire.specs.declared.fault.Fault.TheVariants.{Truncated, BadType}
use Rattle.acfg_wire.specs.Varint.{IsVarint}
use Rattle.acfg_wire.specs.Fields.{Value, varint, eight, delimited, four, WireField, type_of, Holds, IsField}
use Rattle.acfg_wire.specs.Faults.{HasKey}
use Rattle.acfg_wire.specs.Reading.{◌>>=◌, varint_at, front_at, value_at, field_at}
use Rattle.acfg_wire.proofs.VarintFacts.{AreBytes, same_found, bind_ok, judged, varint_again, varint_takes}

-- ---- what is spelled is read

pub front_again : (text rest : List ℕ) (n : ℕ) → length text ≡ n → front_at n (text ++ rest) ≡ Ok (text, rest)
front_again text rest n len =
    let long : ltb (length (text ++ rest)) n ≡ false = le-ltb _ _ (omega (arith, length-append text rest)) in
    rw (long, take_at text rest n len, drop_at text rest n len) refl

pub value_again : (text rest : List ℕ) (v : Value) → Holds text v → value_at (type_of v) (text ++ rest) ≡ Ok (v, rest)
unfolding value_at
value_again text rest (varint n) h = rw (varint_again text rest n h) refl
value_again text rest (eight content) h = rw (h.0, front_again content rest 8 h.1) refl
value_again text rest (delimited content) h =
    let regrouped : text ++ rest ≡ h.0 ++ (content ++ rest) = ap (λ (w : List ℕ). w ++ rest) h.2 ∙ append_assoc h.0 content rest in
    rw (regrouped, varint_again h.0 (content ++ rest) (length content) h.1, front_again content rest (length content) refl) refl
value_again text rest (four content) h = rw (h.0, front_again content rest 4 h.1) refl

-- behind a whole key the value is read
pub behind_key : (bytes behind : List ℕ) (type : ℕ) (h : HasKey bytes type behind) → type < 8 → field_at bytes ≡ (value_at type behind >>= λ value. Ok (record { number = h.number; value = value.0 }, value.1))
unfolding field_at
behind_key bytes behind type h small =
    let key = varint_again h.key behind (h.number * 8 + type) h.keyed in
    let n : (h.number * 8 + type) / 8 ≡ h.number = omega arith in
    let t : (h.number * 8 + type) % 8 ≡ type = omega arith in
    let some : eqb h.number 0 ≡ false = ne_eqb h.number 0 (omega (arith, h.numbered)) in
    rw (h.parts, key, n, t, some) refl

type_small : (v : Value) → type_of v < 8
type_small (varint n) = omega arith
type_small (eight content) = omega arith
type_small (delimited content) = omega arith
type_small (four content) = omega arith

pub field_again : (text rest : List ℕ) (f : WireField) → IsField text f → field_at (text ++ rest) ≡ Ok (f, rest)
field_again text rest f h =
    let key : HasKey (text ++ rest) (type_of f.value) (h.behind ++ rest) = record {
      key = h.key;
      number = f.number;
      parts = ap (λ (w : List ℕ). w ++ rest) h.parts ∙ append_assoc h.key h.behind rest;
      keyed = h.keyed;
      numbered = h.numbered;
    } in
    behind_key (text ++ rest) (h.behind ++ rest) (type_of f.value) key (type_small f.value) ∙ rw (value_again h.behind rest f.value h.holds) refl

-- ---- what is read is spelled

pub front_takes : (n : ℕ) (bytes content rest : List ℕ) → front_at n bytes ≡ Ok (content, rest) → (bytes ≡ content ++ rest) × (length content ≡ n)
front_takes n bytes content rest e =
    elim (judged (ltb (length bytes) n) (Err Truncated) (Ok (take n bytes, drop n bytes)) (Ok (content, rest)) e) [
      | inl short ↦ let wrong = short.1 in absurd cc
      | inr long ↦
          let enough : n ≤ length bytes = ltb-false _ _ long.0 in
          let made : List ℕ × List ℕ = (take n bytes, drop n bytes) in
          subst (λ (x : List ℕ × List ℕ). (bytes ≡ x.0 ++ x.1) × (length x.0 ≡ n)) (same_found made (content, rest) long.1) (sym (take-append-drop n bytes), omega (arith, length-take n bytes))
    ]

pub front_short : (n : ℕ) (bytes : List ℕ) (k : Fault) → front_at n bytes ≡ Err k → (k ≡ Truncated) × (length bytes < n)
front_short n bytes k e =
    elim (judged (ltb (length bytes) n) (Err Truncated) (Ok (take n bytes, drop n bytes)) (Err k) e) [
      | inl short ↦ let same = short.1 in (cc, ltb-true _ _ short.0)
      | inr long ↦ let wrong = long.1 in absurd cc
    ]

-- the front of the bytes holds this value
pub record TakesValue (type : ℕ) (bytes : List ℕ) (v : Value) (rest : List ℕ) : Type 0 where
  pub text : List ℕ
  pub parts : bytes ≡ text ++ rest
  pub typed : type ≡ type_of v
  pub holds : Holds text v

-- which value was read, by its type
pub data IsChosen (type : ℕ) (bs : List ℕ) (read : Result (Value × List ℕ) Fault) : Type 0 where
  as_varint : type ≡ 0 → (varint_at bs >>= λ n. Ok (varint n.0, n.1)) ≡ read → IsChosen type bs read
  as_eight : type ≡ 1 → (front_at 8 bs >>= λ content. Ok (eight content.0, content.1)) ≡ read → IsChosen type bs read
  as_delimited : type ≡ 2 → (varint_at bs >>= λ n. front_at n.0 n.1 >>= λ content. Ok (delimited content.0, content.1)) ≡ read → IsChosen type bs read
  as_four : type ≡ 5 → (front_at 4 bs >>= λ content. Ok (four content.0, content.1)) ≡ read → IsChosen type bs read
  as_none : (type ≡ 0 → ⊥) → (type ≡ 1 → ⊥) → (type ≡ 2 → ⊥) → (type ≡ 5 → ⊥) → Err BadType ≡ read → IsChosen type bs read

pub chosen : (type : ℕ) (bs : List ℕ) (read : Result (Value × List ℕ) Fault) → value_at type bs ≡ read → IsChosen type bs read
unfolding value_at
chosen type bs read e =
    elim (judged (eqb type 0) _ _ read e) [
      | inl zeroth ↦ as_varint (eqb-true _ _ zeroth.0) zeroth.1
      | inr not_0 ↦ elim (judged (eqb type 1) _ _ read not_0.1) [
        | inl first ↦ as_eight (eqb-true _ _ first.0) first.1
        | inr not_1 ↦ elim (judged (eqb type 2) _ _ read not_1.1) [
          | inl second ↦ as_delimited (eqb-true _ _ second.0) second.1
          | inr not_2 ↦ elim (judged (eqb type 5) _ _ read not_2.1) [
            | inl fifth ↦ as_four (eqb-true _ _ fifth.0) fifth.1
            | inr not_5 ↦ as_none (eqb-false _ _ not_0.0) (eqb-false _ _ not_1.0) (eqb-false _ _ not_2.0) (eqb-false _ _ not_5.0) not_5.1
          ]
        ]
      ]
    ]

-- bytes behind bytes
pub AreBytes-front : (front rest : List ℕ) → AreBytes (front ++ rest) → AreBytes rest
AreBytes-front front rest h i = rw (← get_or-append-add front rest i 0) (h (length front + i))

pub value_takes : (type : ℕ) (bytes : List ℕ) (v : Value) (rest : List ℕ) → AreBytes bytes → value_at type bytes ≡ Ok (v, rest) → TakesValue type bytes v rest
value_takes type bytes v rest fits e = at (chosen type bytes (Ok (v, rest)) e)
  where
    at : IsChosen type bytes (Ok (v, rest)) → TakesValue type bytes v rest
    at (as_varint is read) =
        let n = bind_ok (varint_at bytes) (λ n. Ok (varint n.0, n.1)) (v, rest) read in
        let text = varint_takes bytes n.0.0 n.0.1 fits n.1 in
        let made : Value × List ℕ = (varint n.0.0, n.0.1) in
        subst (λ (x : Value × List ℕ). TakesValue type bytes x.0 x.1) (same_found made (v, rest) n.2) (record { text = text.0; parts = text.1; typed = is; holds = text.2 })
    at (as_eight is read) =
        let c = bind_ok (front_at 8 bytes) (λ content. Ok (eight content.0, content.1)) (v, rest) read in
        let front = front_takes 8 bytes c.0.0 c.0.1 c.1 in
        let made : Value × List ℕ = (eight c.0.0, c.0.1) in
        subst (λ (x : Value × List ℕ). TakesValue type bytes x.0 x.1) (same_found made (v, rest) c.2) (record { text = c.0.0; parts = front.0; typed = is; holds = (refl, front.1) })
    at (as_delimited is read) =
        let n = bind_ok (varint_at bytes) (λ n. front_at n.0 n.1 >>= λ content. Ok (delimited content.0, content.1)) (v, rest) read in
        let c = bind_ok (front_at n.0.0 n.0.1) (λ content. Ok (delimited content.0, content.1)) (v, rest) n.2 in
        let text = varint_takes bytes n.0.0 n.0.1 fits n.1 in
        let front = front_takes n.0.0 n.0.1 c.0.0 c.0.1 c.1 in
        let sized : IsVarint text.0 (length c.0.0) = rw front.1 text.2 in
        let parts : bytes ≡ (text.0 ++ c.0.0) ++ c.0.1 = text.1 ∙ ap (λ (w : List ℕ). text.0 ++ w) front.0 ∙ sym (append_assoc text.0 c.0.0 c.0.1) in
        let made : Value × List ℕ = (delimited c.0.0, c.0.1) in
        subst (λ (x : Value × List ℕ). TakesValue type bytes x.0 x.1) (same_found made (v, rest) c.2) (record { text = text.0 ++ c.0.0; parts = parts; typed = is; holds = (text.0, sized, refl) })
    at (as_four is read) =
        let c = bind_ok (front_at 4 bytes) (λ content. Ok (four content.0, content.1)) (v, rest) read in
        let front = front_takes 4 bytes c.0.0 c.0.1 c.1 in
        let made : Value × List ℕ = (four c.0.0, c.0.1) in
        subst (λ (x : Value × List ℕ). TakesValue type bytes x.0 x.1) (same_found made (v, rest) c.2) (record { text = c.0.0; parts = front.0; typed = is; holds = (refl, front.1) })
    at (as_none a b c d read) = absurd cc

-- the bytes begin with this field
pub record TakesField (bytes : List ℕ) (f : WireField) (rest : List ℕ) : Type 0 where
  pub text : List ℕ
  pub parts : bytes ≡ text ++ rest
  pub is : IsField text f

pub some_number : (n : ℕ) → (n ≡ 0 → ⊥) → 1 ≤ n
some_number n h = omega (arith, h)

-- a key that is read, and what is read behind it
pub record ReadsKey (bytes : List ℕ) (key : ℕ) (behind : List ℕ) (read : Result (WireField × List ℕ) Fault) : Type 0 where
  pub text : List ℕ
  pub parts : bytes ≡ text ++ behind
  pub keyed : IsVarint text key
  pub fits : AreBytes behind
  pub then : cond (eqb (key / 8) 0) (Err BadType) (value_at (key % 8) behind >>= λ value. Ok (record { number = key / 8; value = value.0 }, value.1)) ≡ read

pub reads_key : (bytes : List ℕ) (key : ℕ) (behind : List ℕ) (read : Result (WireField × List ℕ) Fault) → AreBytes bytes → varint_at bytes ≡ Ok (key, behind)
    → cond (eqb (key / 8) 0) (Err BadType) (value_at (key % 8) behind >>= λ value. Ok (record { number = key / 8; value = value.0 }, value.1)) ≡ read → ReadsKey bytes key behind read
reads_key bytes key behind read fits e next =
    let text = varint_takes bytes key behind fits e in
    record { text = text.0; parts = text.1; keyed = text.2; fits = AreBytes-front text.0 behind (rw text.1 at fits); then = next }

pub field_takes : (bytes : List ℕ) (f : WireField) (rest : List ℕ) → AreBytes bytes → field_at bytes ≡ Ok (f, rest) → TakesField bytes f rest
unfolding field_at
field_takes bytes f rest fits e =
    let key = bind_ok (varint_at bytes) (λ key. cond (eqb (key.0 / 8) 0) (Err BadType) (value_at (key.0 % 8) key.1 >>= λ value. Ok (record { number = key.0 / 8; value = value.0 }, value.1))) (f, rest) e in
    at key.0.0 key.0.1 (reads_key bytes key.0.0 key.0.1 (Ok (f, rest)) fits key.1 key.2)
  where
    at : (key : ℕ) (behind : List ℕ) → ReadsKey bytes key behind (Ok (f, rest)) → TakesField bytes f rest
    at key behind h =
        elim (judged (eqb (key / 8) 0) (Err BadType) (value_at (key % 8) behind >>= λ value. Ok (record { number = key / 8; value = value.0 }, value.1)) (Ok (f, rest)) h.then) [
          | inl none ↦ let wrong = none.1 in absurd cc
          | inr some ↦
              let v = bind_ok (value_at (key % 8) behind) (λ value. Ok (record { number = key / 8; value = value.0 }, value.1)) (f, rest) some.1 in
              let t = value_takes (key % 8) behind v.0.0 v.0.1 h.fits v.1 in
              let whole : key / 8 * 8 + type_of v.0.0 ≡ key = omega (arith, t.typed) in
              let numbered : 1 ≤ key / 8 = some_number (key / 8) (eqb-false _ _ some.0) in
              let parts : bytes ≡ (h.text ++ t.text) ++ v.0.1 = h.parts ∙ ap (λ (w : List ℕ). h.text ++ w) t.parts ∙ sym (append_assoc h.text t.text v.0.1) in
              let made : WireField × List ℕ = (record { number = key / 8; value = v.0.0 }, v.0.1) in
              subst (λ (x : WireField × List ℕ). TakesField bytes x.0 x.1) (same_found made (f, rest) v.2) (record {
                text = h.text ++ t.text;
                parts = parts;
                is = record { key = h.text; behind = t.text; parts = refl; keyed = rw whole h.keyed; numbered = numbered; holds = t.holds };
              })
        ]
