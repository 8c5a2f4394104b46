-- A fault as a relation and as what is read: each says the other.
use Rattle.std.proofs.Common.{◌≡◌, ℕ, ◌+◌, ◌*◌, ◌/◌, ◌%◌, ◌<◌, ◌⊎◌, Bool, true, false, cond, eqb, List, length, Err, refl, sym, subst, ◌∙◌, arith, inl, inr}
use Rattle.std.proofs.lemmas.Bool.{lt-ltb, eqb-true, eqb-false, cases_eq}
use Rattle.acfg_wire.specs.declared.fault.Fault.{Fault}
use Rattle.acfg_wire.specs.declared.fault.Fault.TheVariants.{Truncated, LongVarint, BadType}
use Rattle.acfg_wire.specs.Fields.{Value, varint, eight, delimited, four, WireField}
use Rattle.acfg_wire.specs.Faults.{HasKey, IsTooShort, IsTruncated, in_key, in_varint, in_eight, in_length, in_bytes, in_four, HasLongVarint, as_key, as_varint, as_length, IsBadTypeNumber, HasBadType}
use Rattle.acfg_wire.specs.Reading.{◌>>=◌, varint_at, front_at, value_at, field_at}
use Rattle.acfg_wire.proofs.VarintFacts.{AreBytes, found, bind_err, judged, varint_again, varint_takes, ends_again, long_again, varint_ends, varint_long, varint_typeless}
use Rattle.acfg_wire.proofs.FieldFacts as fields

-- a fault of the field that begins here, as a relation
abbrev pub FieldFault : Fault → List ℕ → Type 0
FieldFault Truncated bytes = IsTruncated bytes
FieldFault LongVarint bytes = HasLongVarint bytes
FieldFault BadType bytes = HasBadType bytes

-- ---- what is at fault is told

front_fails : (n : ℕ) (bytes : List ℕ) → length bytes < n → front_at n bytes ≡ Err Truncated
front_fails n bytes short = rw (lt-ltb _ _ short) refl

-- a fault of the value is the field's
at_value : (bytes behind : List ℕ) (type : ℕ) (k : Fault) → HasKey bytes type behind → type < 8 → value_at type behind ≡ Err k → field_at bytes ≡ Err k
at_value bytes behind type k key small e = fields.behind_key bytes behind type key small ∙ rw e refl

key_fails : (bytes : List ℕ) (k : Fault) → varint_at bytes ≡ Err k → field_at bytes ≡ Err k
unfolding field_at
key_fails bytes k e = rw e refl

varint_fails : (bytes : List ℕ) (k : Fault) → varint_at bytes ≡ Err k → value_at 0 bytes ≡ Err k
unfolding value_at
varint_fails bytes k e = rw e refl

length_fails : (bytes : List ℕ) (k : Fault) → varint_at bytes ≡ Err k → value_at 2 bytes ≡ Err k
unfolding value_at
length_fails bytes k e = rw e refl

eight_fails : (bytes : List ℕ) → length bytes < 8 → value_at 1 bytes ≡ Err Truncated
unfolding value_at
eight_fails bytes short = rw (front_fails 8 bytes short) refl

four_fails : (bytes : List ℕ) → length bytes < 4 → value_at 5 bytes ≡ Err Truncated
unfolding value_at
four_fails bytes short = rw (front_fails 4 bytes short) refl

bytes_fails : (bytes : List ℕ) → IsTooShort bytes → value_at 2 bytes ≡ Err Truncated
unfolding value_at
bytes_fails bytes h = rw (h.parts, varint_again h.len h.content h.size h.sized, front_fails h.size h.content h.fewer) refl

truncated_again : (bytes : List ℕ) → IsTruncated bytes → field_at bytes ≡ Err Truncated
truncated_again bytes (in_key h) = key_fails bytes Truncated (ends_again bytes h)
truncated_again bytes (in_varint behind key h) = at_value bytes behind 0 Truncated key (omega arith) (varint_fails behind Truncated (ends_again behind h))
truncated_again bytes (in_eight behind key h) = at_value bytes behind 1 Truncated key (omega arith) (eight_fails behind h)
truncated_again bytes (in_length behind key h) = at_value bytes behind 2 Truncated key (omega arith) (length_fails behind Truncated (ends_again behind h))
truncated_again bytes (in_bytes behind key h) = at_value bytes behind 2 Truncated key (omega arith) (bytes_fails behind h)
truncated_again bytes (in_four behind key h) = at_value bytes behind 5 Truncated key (omega arith) (four_fails behind h)

long_varint_again : (bytes : List ℕ) → HasLongVarint bytes → field_at bytes ≡ Err LongVarint
long_varint_again bytes (as_key h) = key_fails bytes LongVarint (long_again bytes h)
long_varint_again bytes (as_varint behind key h) = at_value bytes behind 0 LongVarint key (omega arith) (varint_fails behind LongVarint (long_again behind h))
long_varint_again bytes (as_length behind key h) = at_value bytes behind 2 LongVarint key (omega arith) (length_fails behind LongVarint (long_again behind h))

same_either_way : {A : Type 0} (b : Bool) (x y : A) → y ≡ x → cond b x y ≡ x
same_either_way true x y e = refl
same_either_way false x y e = e

type_fails : (type : ℕ) (bytes : List ℕ) → IsBadTypeNumber type → value_at type bytes ≡ Err BadType
unfolding value_at
type_fails type bytes (inl is) = rw is refl
type_fails type bytes (inr (inl is)) = rw is refl
type_fails type bytes (inr (inr (inl is))) = rw is refl
type_fails type bytes (inr (inr (inr is))) = rw is refl

bad_type_again : (bytes : List ℕ) → HasBadType bytes → field_at bytes ≡ Err BadType
unfolding field_at
bad_type_again bytes h =
    let key = varint_again h.key h.behind (h.number * 8 + h.type) h.keyed in
    let below = h.below in
    let n : (h.number * 8 + h.type) / 8 ≡ h.number = omega arith in
    let t : (h.number * 8 + h.type) % 8 ≡ h.type = omega arith in
    rw (h.parts, key, n, t) (at h.refused)
  where
    at : (h.number ≡ 0) ⊎ IsBadTypeNumber h.type → cond (eqb h.number 0) (Err BadType) (value_at h.type h.behind >>= λ value. found {A = WireField × List ℕ} (record { number = h.number; value = value.0 }, value.1)) ≡ Err BadType
    at (inl none) = rw none refl
    at (inr bad) = same_either_way (eqb h.number 0) _ _ (rw (type_fails h.type h.behind bad) refl)

pub fault_again : (k : Fault) (bytes : List ℕ) → FieldFault k bytes → field_at bytes ≡ Err k
fault_again Truncated bytes h = truncated_again bytes h
fault_again LongVarint bytes h = long_varint_again bytes h
fault_again BadType bytes h = bad_type_again bytes h

-- ---- what is told is at fault

key_faults : (k : Fault) (bytes : List ℕ) → varint_at bytes ≡ Err k → FieldFault k bytes
key_faults Truncated bytes e = in_key (varint_ends bytes e)
key_faults LongVarint bytes e = as_key (varint_long bytes e)
key_faults BadType bytes e = absurd (varint_typeless bytes e)

varint_faults : (k : Fault) (bytes behind : List ℕ) → HasKey bytes 0 behind → varint_at behind ≡ Err k → FieldFault k bytes
varint_faults Truncated bytes behind key e = in_varint behind key (varint_ends behind e)
varint_faults LongVarint bytes behind key e = as_varint behind key (varint_long behind e)
varint_faults BadType bytes behind key e = absurd (varint_typeless behind e)

length_faults : (k : Fault) (bytes behind : List ℕ) → HasKey bytes 2 behind → varint_at behind ≡ Err k → FieldFault k bytes
length_faults Truncated bytes behind key e = in_length behind key (varint_ends behind e)
length_faults LongVarint bytes behind key e = as_length behind key (varint_long behind e)
length_faults BadType bytes behind key e = absurd (varint_typeless behind e)

-- a value of so many bytes fails only where there are fewer
front_faults : (bytes behind : List ℕ) (n : ℕ) (k : Fault) (made : List ℕ × List ℕ → Value × List ℕ) → (front_at n behind >>= λ content. found (made content)) ≡ Err k → (length behind < n → IsTruncated bytes) → FieldFault k bytes
front_faults bytes behind n k made read truncated =
    elim (bind_err (front_at n behind) (λ content. found (made content)) k read) [
      | inl first ↦
          let short = fields.front_short n behind k first in
          subst (λ (j : Fault). FieldFault j bytes) (sym short.0) (truncated short.1)
      | inr second ↦ let wrong = second.2 in absurd cc
    ]

-- a type that is none of those with values
bad_number : (type : ℕ) → type < 8 → (type ≡ 0 → ⊥) → (type ≡ 1 → ⊥) → (type ≡ 2 → ⊥) → (type ≡ 5 → ⊥) → IsBadTypeNumber type
bad_number type below a b c d =
    elim (cases_eq type 3) [
      | inl is ↦ inl is
      | inr not_3 ↦ elim (cases_eq type 4) [
        | inl is ↦ inr (inl is)
        | inr not_4 ↦ elim (cases_eq type 6) [
          | inl is ↦ inr (inr (inl is))
          | inr not_6 ↦ inr (inr (inr (omega arith)))
        ]
      ]
    ]

value_faults : (bytes behind : List ℕ) (type : ℕ) (k : Fault) → HasKey bytes type behind → AreBytes behind → type < 8 → value_at type behind ≡ Err k → FieldFault k bytes
value_faults bytes behind type k key fits below e = at (fields.chosen type behind (Err k) e)
  where
    at : fields.IsChosen type behind (Err k) → FieldFault k bytes
    at (fields.as_varint is read) =
        let key' : HasKey bytes 0 behind = rw is at key in
        elim (bind_err (varint_at behind) (λ n. found {A = Value × List ℕ} (varint n.0, n.1)) k read) [
          | inl first ↦ varint_faults k bytes behind key' first
          | inr second ↦ let wrong = second.2 in absurd cc
        ]
    at (fields.as_eight is read) =
        let key' : HasKey bytes 1 behind = rw is at key in
        front_faults bytes behind 8 k (λ content. (eight content.0, content.1)) read (λ short. in_eight behind key' short)
    at (fields.as_delimited is read) =
        let key' : HasKey bytes 2 behind = rw is at key in
        elim (bind_err (varint_at behind) (λ n. front_at n.0 n.1 >>= λ content. found {A = Value × List ℕ} (delimited content.0, content.1)) k read) [
          | inl first ↦ length_faults k bytes behind key' first
          | inr second ↦ elim (bind_err (front_at second.0.0 second.0.1) (λ content. found {A = Value × List ℕ} (delimited content.0, content.1)) k second.2) [
            | inl third ↦
                let short = fields.front_short second.0.0 second.0.1 k third in
                let len = varint_takes behind second.0.0 second.0.1 fits second.1 in
                let few : IsTooShort behind = record { len = len.0; content = second.0.1; size = second.0.0; parts = len.1; sized = len.2; fewer = short.1 } in
                subst (λ (j : Fault). FieldFault j bytes) (sym short.0) (in_bytes behind key' few)
            | inr fourth ↦ let wrong = fourth.2 in absurd cc
          ]
        ]
    at (fields.as_four is read) =
        let key' : HasKey bytes 5 behind = rw is at key in
        front_faults bytes behind 4 k (λ content. (four content.0, content.1)) read (λ short. in_four behind key' short)
    at (fields.as_none a b c d read) =
        let same : BadType ≡ k = cc in
        subst (λ (j : Fault). FieldFault j bytes) same (record {
          key = key.key;
          behind = behind;
          number = key.number;
          type = type;
          parts = key.parts;
          keyed = key.keyed;
          below = below;
          refused = inr (bad_number type below a b c d);
        })

-- what is told of a field is wrong with it
pub fault_takes : (k : Fault) (bytes : List ℕ) → AreBytes bytes → field_at bytes ≡ Err k → FieldFault k bytes
unfolding field_at
fault_takes k bytes fits e =
    elim (bind_err (varint_at bytes) (λ key. cond (eqb (key.0 / 8) 0) (Err BadType) (value_at (key.0 % 8) key.1 >>= λ value. found {A = WireField × List ℕ} (record { number = key.0 / 8; value = value.0 }, value.1))) k e) [
      | inl first ↦ key_faults k bytes first
      | inr second ↦ at second.0.0 second.0.1 (fields.reads_key bytes second.0.0 second.0.1 (Err k) fits second.1 second.2)
    ]
  where
    at : (key : ℕ) (behind : List ℕ) → fields.ReadsKey bytes key behind (Err k) → FieldFault k bytes
    at key behind h =
        elim (judged (eqb (key / 8) 0) (Err BadType) (value_at (key % 8) behind >>= λ value. found {A = WireField × List ℕ} (record { number = key / 8; value = value.0 }, value.1)) (Err k) h.then) [
          | inl none ↦
              let zeroth : key / 8 ≡ 0 = eqb-true _ _ none.0 in
              let whole : 0 * 8 + key % 8 ≡ key = omega arith in
              let same : BadType ≡ k = let told = none.1 in cc in
              subst (λ (j : Fault). FieldFault j bytes) same (record {
                key = h.text;
                behind = behind;
                number = 0;
                type = key % 8;
                parts = h.parts;
                keyed = rw whole h.keyed;
                below = omega arith;
                refused = inl refl;
              })
          | inr some ↦
              elim (bind_err (value_at (key % 8) behind) (λ value. found {A = WireField × List ℕ} (record { number = key / 8; value = value.0 }, value.1)) k some.1) [
                | inl first ↦
                    let whole : key / 8 * 8 + key % 8 ≡ key = omega arith in
                    let has : HasKey bytes (key % 8) behind = record { key = h.text; number = key / 8; parts = h.parts; keyed = rw whole h.keyed; numbered = fields.some_number (key / 8) (eqb-false _ _ some.0) } in
                    value_faults bytes behind (key % 8) k has h.fits (omega arith) first
                | inr second ↦ let wrong = second.2 in absurd cc
              ]
        ]
