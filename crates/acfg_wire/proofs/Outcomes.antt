-- What bytes are: some outcome, one alone, and the same behind other fields.
use Rattle.std.proofs.Common.{◌≡◌, ℕ, zero, suc, ◌+◌, ◌<◌, ◌≤◌, List, [], ◌∷◌, ◌++◌, length, get_or, take, Result, Ok, Err, refl, sym, ap, subst, arith}
use Rattle.std.proofs.Math.Seq.{take-append-add, drop-append-add}
use Rattle.std.proofs.lemmas.List.{length-append}
use Rattle.acfg_wire.specs.declared.fault.Fault.{Fault}
use Rattle.acfg_wire.specs.declared.fault.Fault.TheVariants as one
use Rattle.acfg_wire.specs.declared.fault.WireFault.{WireFault}
use Rattle.acfg_wire.specs.declared.fault.WireFault.TheVariants.{Truncated, LongVarint, BadType, OutOfMemory}
use Rattle.acfg_wire.specs.Fields.{WireField, IsFields}
use Rattle.acfg_wire.specs.Faults.{IsFirstFault}
use Rattle.acfg_wire.specs.Outcome.{IsOutcome, behind}
use Rattle.acfg_wire.specs.Reading.{field_at, fault_at}
use Rattle.acfg_wire.proofs.VarintFacts.{AreBytes}
use Rattle.acfg_wire.proofs.FieldFacts.{AreBytes-front, field_takes}
use Rattle.acfg_wire.proofs.FaultFacts.{FieldFault, fault_takes}
use Rattle.acfg_wire.proofs.Once.{fields_once, fields_or_fault, fault_once}
use Rattle.acfg_wire.proofs.Joined.{IsFields-append, one_field, field_long}

fault_behind : (IsFault : List ℕ → Type 0) (front rest : List ℕ) (fields : List WireField) (place : ℕ) → IsFields front fields → IsFirstFault IsFault rest place → IsFirstFault IsFault (front ++ rest) (length front + place)
fault_behind IsFault front rest fields place h fault =
    let within = fault.within in
    record {
      fields = fields ++ fault.fields;
      before = rw (take-append-add front rest place) (IsFields-append front (take place rest) fields fault.fields h fault.before);
      within = omega (arith, length-append front rest);
      fault = rw (drop-append-add front rest place) fault.fault;
    }

pub outcome_behind : (front rest : List ℕ) (fields : List WireField) (outcome : Result (List WireField) WireFault) → IsFields front fields → IsOutcome rest outcome → IsOutcome (front ++ rest) (behind fields (length front) outcome)
outcome_behind front rest fields (Ok others) h is = IsFields-append front rest fields others h is
outcome_behind front rest fields (Err (Truncated place)) h is = fault_behind _ front rest fields place h is
outcome_behind front rest fields (Err (LongVarint place)) h is = fault_behind _ front rest fields place h is
outcome_behind front rest fields (Err (BadType place)) h is = fault_behind _ front rest fields place h is
outcome_behind front rest fields (Err OutOfMemory) h is = absurd is

-- ---- one alone

-- the fault of a field and its place
record IsFault (bytes : List ℕ) (fault : WireFault) : Type 0 where
  kind : Fault
  place : ℕ
  is : fault ≡ fault_at kind place
  first : IsFirstFault (FieldFault kind) bytes place

as_fault : (bytes : List ℕ) (fault : WireFault) → IsOutcome bytes (Err fault) → IsFault bytes fault
as_fault bytes (Truncated place) h = record { kind = one.Truncated; place = place; is = refl; first = h }
as_fault bytes (LongVarint place) h = record { kind = one.LongVarint; place = place; is = refl; first = h }
as_fault bytes (BadType place) h = record { kind = one.BadType; place = place; is = refl; first = h }
as_fault bytes OutOfMemory h = absurd h

pub one_outcome : (bytes : List ℕ) (a b : Result (List WireField) WireFault) → IsOutcome bytes a → IsOutcome bytes b → a ≡ b
one_outcome bytes (Ok fs) (Ok gs) h g = ap (λ (x : List WireField). Ok x) (fields_once bytes fs gs h g)
one_outcome bytes (Ok fs) (Err w) h g = let f = as_fault bytes w g in absurd (fields_or_fault bytes fs f.kind f.place h f.first)
one_outcome bytes (Err v) (Ok gs) h g = let f = as_fault bytes v h in absurd (fields_or_fault bytes gs f.kind f.place g f.first)
one_outcome bytes (Err v) (Err w) h g =
    let e = as_fault bytes v h in
    let f = as_fault bytes w g in
    let same = fault_once bytes e.kind f.kind e.place f.place e.first f.first in
    rw (e.is, f.is, same.0, same.1) refl

-- ---- some

-- a first fault of a kind, as one of the whole
pub fault_outcome : (bytes : List ℕ) (kind : Fault) (place : ℕ) → IsFirstFault (FieldFault kind) bytes place → IsOutcome bytes (Err (fault_at kind place))
fault_outcome bytes one.Truncated place h = h
fault_outcome bytes one.LongVarint place h = h
fault_outcome bytes one.BadType place h = h

some_within : (n : ℕ) (bytes : List ℕ) → length bytes ≤ n → AreBytes bytes → (outcome : Result (List WireField) WireFault) × IsOutcome bytes outcome
some_within n [] short fits = (Ok [], refl)
some_within zero (b ∷ bs) short fits = absurd (omega arith)
some_within (suc n) (b ∷ bs) short fits = at (λ rest shorter rest_fits. some_within n rest shorter rest_fits) (field_at (b ∷ bs)) refl
  where
    at : ((rest : List ℕ) → length rest ≤ n → AreBytes rest → (outcome : Result (List WireField) WireFault) × IsOutcome rest outcome) → (read : Result (WireField × List ℕ) Fault) → field_at (b ∷ bs) ≡ read → (outcome : Result (List WireField) WireFault) × IsOutcome (b ∷ bs) outcome
    at onward (Ok (f, rest)) e =
        let t = field_takes (b ∷ bs) f rest fits e in
        let shorter : length rest ≤ n = omega (arith, field_long t.text f t.is, ap length t.parts, length-append t.text rest) in
        let after = onward rest shorter (AreBytes-front t.text rest (rw t.parts at fits)) in
        (behind (f ∷ []) (length t.text) after.0, subst (λ (w : List ℕ). IsOutcome w (behind (f ∷ []) (length t.text) after.0)) (sym t.parts) (outcome_behind t.text rest (f ∷ []) after.0 (one_field t.text f t.is) after.1))
    at onward (Err kind) e = (Err (fault_at kind 0), fault_outcome (b ∷ bs) kind 0 (record { fields = []; before = refl; within = omega arith; fault = fault_takes kind (b ∷ bs) fits e }))

pub some_outcome : (bytes : List ℕ) → ((i : ℕ) → get_or bytes i 0 < 256) → (outcome : Result (List WireField) WireFault) × IsOutcome bytes outcome
some_outcome bytes fits = some_within (length bytes) bytes (omega arith) fits
