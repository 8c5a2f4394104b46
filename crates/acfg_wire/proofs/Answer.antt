-- What reading all of the bytes answers, field after field.
use Rattle.std.proofs.Common.{◌≡◌, ℕ, ◌-◌, ◌<◌, ◌⊎◌, List, [], ◌∷◌, ◌++◌, length, take, drop, Result, Ok, Err, refl, sym, ap, ◌∙◌, append_assoc, arith, inl, inr}
use Rattle.std.specs.Prelude.{MatchResult}
use Rattle.std.specs.Global.{Vec}
use Rattle.std.proofs.lemmas.List.{append-nil, length-append, take_at, drop_at, nil_from_length}
use Rattle.acfg_wire.specs.declared.fault.Fault.{Fault}
use Rattle.acfg_wire.specs.declared.fault.WireFault.{WireFault}
use Rattle.acfg_wire.specs.declared.fault.WireFault.TheVariants.{OutOfMemory}
use Rattle.acfg_wire.specs.declared.field.Field.{Field}
use Rattle.acfg_wire.specs.Fields.{WireField, IsFields, BeginAt, fields_of}
use Rattle.acfg_wire.specs.Faults.{IsFirstFault}
use Rattle.acfg_wire.specs.Outcome.{IsOutcome}
use Rattle.acfg_wire.specs.Reading.{field_at}
use Rattle.acfg_wire.proofs.VarintFacts.{AreBytes}
use Rattle.acfg_wire.proofs.FieldFacts.{AreBytes-front, field_takes}
use Rattle.acfg_wire.proofs.FaultFacts.{FieldFault, fault_takes}
use Rattle.acfg_wire.proofs.Once.{fields_once}
use Rattle.acfg_wire.proofs.Outcomes.{one_outcome}
use Rattle.acfg_wire.proofs.Ends.{ValuesLie, values_none, ValuesLie-push}
use Rattle.acfg_wire.proofs.Joined.{IsFields-append, one_field, field_long, BeginAt-push}

-- the fields before the rest
pub record IsSoFar (bytes rest : List ℕ) (fields : List WireField) (places : List ℕ) : Type 0 where
  pub front : List ℕ
  pub parts : bytes ≡ front ++ rest
  pub whole : IsFields front fields
  pub begin : BeginAt front fields places
  pub lie : ValuesLie front fields places

pub so_far_first : (bytes : List ℕ) → IsSoFar bytes bytes [] []
so_far_first bytes = record {
  front = [];
  parts = refl;
  whole = refl;
  begin = record { each = refl; within = λ i h. absurd (omega arith); before = λ i h. absurd (omega arith); onward = λ i h. absurd (omega arith) };
  lie = values_none;
}

rest_fits : (bytes rest : List ℕ) (fs : List WireField) (ps : List ℕ) → AreBytes bytes → IsSoFar bytes rest fs ps → AreBytes rest
rest_fits bytes rest fs ps fits h = AreBytes-front h.front rest (rw h.parts at fits)

pub so_far_next : (bytes rest : List ℕ) (fs : List WireField) (ps : List ℕ) (f : WireField) (behind : List ℕ) → AreBytes bytes → IsSoFar bytes rest fs ps → field_at rest ≡ Ok (f, behind)
    → IsSoFar bytes behind (fs ++ f ∷ []) (ps ++ (length bytes - length rest) ∷ [])
so_far_next bytes rest fs ps f behind fits h e =
    let t = field_takes rest f behind (rest_fits bytes rest fs ps fits h) e in
    let place : length bytes - length rest ≡ length h.front = omega (arith, ap length h.parts, length-append h.front rest) in
    record {
      front = h.front ++ t.text;
      parts = h.parts ∙ ap (λ (w : List ℕ). h.front ++ w) t.parts ∙ sym (append_assoc h.front t.text behind);
      whole = IsFields-append h.front t.text fs (f ∷ []) h.whole (one_field t.text f t.is);
      begin = rw place (BeginAt-push h.front t.text fs f ps h.begin h.whole t.is);
      lie = rw place (ValuesLie-push h.front t.text fs f ps h.begin h.lie t.is);
    }

pub so_far_last : (bytes rest : List ℕ) (fs : List WireField) (ps : List ℕ) → IsSoFar bytes rest fs ps → length rest ≡ 0 → IsFields bytes fs × BeginAt bytes fs ps × ValuesLie bytes fs ps
so_far_last bytes rest fs ps h none =
    let all : bytes ≡ h.front = h.parts ∙ ap (λ (w : List ℕ). h.front ++ w) (nil_from_length rest none) ∙ append-nil h.front in
    rw all (h.whole, h.begin, h.lie)

pub so_far_fault : (bytes rest : List ℕ) (fs : List WireField) (ps : List ℕ) (k : Fault) → AreBytes bytes → IsSoFar bytes rest fs ps → field_at rest ≡ Err k → 0 < length rest
    → IsFirstFault (FieldFault k) bytes (length bytes - length rest)
so_far_fault bytes rest fs ps k fits h e some =
    let place : length bytes - length rest ≡ length h.front = omega (arith, ap length h.parts, length-append h.front rest) in
    let before : take (length h.front) bytes ≡ h.front = ap (take (length h.front)) h.parts ∙ take_at h.front rest (length h.front) refl in
    let behind : drop (length h.front) bytes ≡ rest = ap (drop (length h.front)) h.parts ∙ drop_at h.front rest (length h.front) refl in
    rw place (record {
      fields = fs;
      before = rw before h.whole;
      within = omega (arith, ap length h.parts, length-append h.front rest);
      fault = rw behind (fault_takes k rest (rest_fits bytes rest fs ps fits h) e);
    })

-- what was answered is so
abbrev pub IsAnswer : List ℕ → Result (Vec Field) WireFault → Type 0
IsAnswer bytes (Ok read) = IsFields bytes (fields_of read.items)
IsAnswer bytes (Err fault) = (fault ≡ OutOfMemory) ⊎ IsOutcome bytes (Err fault)

-- fields that stand are read, unless memory ran out
pub tells_fields : (bytes : List ℕ) (result : Result (Vec Field) WireFault) → IsAnswer bytes result → (fs : List WireField) → IsFields bytes fs → MatchResult result (λ read. fields_of read.items ≡ fs) (λ e. e ≡ OutOfMemory)
tells_fields bytes (Ok read) h fs is = fields_once bytes (fields_of read.items) fs h is
tells_fields bytes (Err fault) (inl memory) fs is = memory
tells_fields bytes (Err fault) (inr h) fs is = let same = one_outcome bytes (Err fault) (Ok fs) h is in absurd cc

-- a fault that stands is told, unless memory ran out
pub tells_fault : (bytes : List ℕ) (result : Result (Vec Field) WireFault) → IsAnswer bytes result → (fault : WireFault) → IsOutcome bytes (Err fault) → (result ≡ Err fault) ⊎ (result ≡ Err OutOfMemory)
tells_fault bytes (Ok read) h fault is = let same = one_outcome bytes (Ok (fields_of read.items)) (Err fault) h is in absurd cc
tells_fault bytes (Err other) (inl memory) fault is = inr (ap (λ (e : WireFault). Err e) memory)
tells_fault bytes (Err other) (inr h) fault is =
    let same = one_outcome bytes (Err other) (Err fault) h is in
    let told : other ≡ fault = cc in
    inl (ap (λ (e : WireFault). Err e) told)

-- each field makes the rest shorter
pub shorter : (bytes rest : List ℕ) (fs : List WireField) (ps : List ℕ) (f : WireField) (behind : List ℕ) → AreBytes bytes → IsSoFar bytes rest fs ps → field_at rest ≡ Ok (f, behind) → length behind < length rest
shorter bytes rest fs ps f behind fits h e =
    let t = field_takes rest f behind (rest_fits bytes rest fs ps fits h) e in
    omega (arith, field_long t.text f t.is, ap length t.parts, length-append t.text behind)
