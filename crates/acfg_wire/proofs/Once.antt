-- Bytes are read in one way alone.
use Rattle.std.proofs.Common.{◌≡◌, ℕ, List, [], ◌∷◌, ◌++◌, length, take, drop, Err, refl, sym, ap, ◌∙◌, append_assoc, arith}
use Rattle.std.proofs.lemmas.List.{append-nil, append_cancel_right, take-append-drop, length-take, length-drop}
use Rattle.acfg_wire.specs.declared.fault.Fault.{Fault}
use Rattle.acfg_wire.specs.declared.fault.Fault.TheVariants.{Truncated}
use Rattle.acfg_wire.specs.Fields.{WireField, IsFields}
use Rattle.acfg_wire.specs.Faults.{IsFirstFault}
use Rattle.acfg_wire.specs.Reading.{varint_at, field_at}
use Rattle.acfg_wire.proofs.VarintFacts.{same_found}
use Rattle.acfg_wire.proofs.FieldFacts.{field_again}
use Rattle.acfg_wire.proofs.FaultFacts.{FieldFault, fault_again}

-- where fields end and no further one can be read, in one and the same bytes
pub record SameEnd (fs gs : List WireField) (a x b y : List ℕ) : Type 0 where
  pub fields : fs ≡ gs
  pub front : a ≡ b
  pub rest : x ≡ y

pub stops_once : (fs gs : List WireField) (a x b y : List ℕ) (k j : Fault) → IsFields a fs → IsFields b gs → a ++ x ≡ b ++ y → field_at x ≡ Err k → field_at y ≡ Err j → SameEnd fs gs a x b y
stops_once [] [] a x b y k j h g e s t =
    let same = rw (h, g) at e in record { fields = refl; front = h ∙ sym g; rest = same }
stops_once [] (f ∷ gs) a x b y k j h (text, (rest, parts, field, fields)) e s t =
    let here : x ≡ text ++ (rest ++ y) = sym (ap (λ (w : List ℕ). w ++ x) h) ∙ e ∙ ap (λ (w : List ℕ). w ++ y) parts ∙ append_assoc text rest y in
    let read = field_again text (rest ++ y) f field in
    let stuck = rw here at s in
    absurd cc
stops_once (f ∷ fs) [] a x b y k j (text, (rest, parts, field, fields)) g e s t =
    let here : y ≡ text ++ (rest ++ x) = sym (ap (λ (w : List ℕ). w ++ y) g) ∙ sym e ∙ ap (λ (w : List ℕ). w ++ x) parts ∙ append_assoc text rest x in
    let read = field_again text (rest ++ x) f field in
    let stuck = rw here at t in
    absurd cc
stops_once (f ∷ fs) (g ∷ gs) a x b y k j (text, (rest, parts, field, fields)) (other, (more, pieces, again, others)) e s t =
    let here : text ++ (rest ++ x) ≡ other ++ (more ++ y) = sym (append_assoc text rest x) ∙ sym (ap (λ (w : List ℕ). w ++ x) parts) ∙ e ∙ ap (λ (w : List ℕ). w ++ y) pieces ∙ append_assoc other more y in
    let one = field_again text (rest ++ x) f field in
    let two = field_again other (more ++ y) g again in
    let one' : WireField × List ℕ = (f, rest ++ x) in
    let two' : WireField × List ℕ = (g, more ++ y) in
    let same : one' ≡ two' = same_found one' two' (sym one ∙ ap field_at here ∙ two) in
    let behind = stops_once fs gs rest x more y k j fields others (ap (λ (p : WireField × List ℕ). p.1) same) s t in
    let first : f ≡ g = ap (λ (p : WireField × List ℕ). p.0) same in
    let whole : a ++ x ≡ b ++ x = e ∙ ap (λ (w : List ℕ). b ++ w) (sym behind.rest) in
    record {
      fields = ap (λ (h : WireField). h ∷ fs) first ∙ ap (λ (hs : List WireField). g ∷ hs) behind.fields;
      front = append_cancel_right a b x whole;
      rest = behind.rest;
    }

nothing_there : field_at [] ≡ Err Truncated
unfolding field_at varint_at
nothing_there = refl

-- there is one list of fields
pub fields_once : (bytes : List ℕ) (fs gs : List WireField) → IsFields bytes fs → IsFields bytes gs → fs ≡ gs
fields_once bytes fs gs h g = (stops_once fs gs bytes [] bytes [] Truncated Truncated h g refl nothing_there nothing_there).fields

pub fault_read : (k : Fault) (bytes : List ℕ) (place : ℕ) → IsFirstFault (FieldFault k) bytes place → field_at (drop place bytes) ≡ Err k
fault_read k bytes place h = fault_again k (drop place bytes) h.fault

-- bytes that are fields have no first fault
pub fields_or_fault : (bytes : List ℕ) (fs : List WireField) (k : Fault) (place : ℕ) → IsFields bytes fs → IsFirstFault (FieldFault k) bytes place → ⊥
fields_or_fault bytes fs k place h fault =
    let whole : bytes ++ [] ≡ take place bytes ++ drop place bytes = append-nil bytes ∙ sym (take-append-drop place bytes) in
    let same = stops_once fs fault.fields bytes [] (take place bytes) (drop place bytes) Truncated k h fault.before whole nothing_there (fault_read k bytes place fault) in
    let within = fault.within in
    absurd (omega (arith, ap length same.rest, length-drop place bytes))

-- there is one first fault
pub fault_once : (bytes : List ℕ) (k j : Fault) (p q : ℕ) → IsFirstFault (FieldFault k) bytes p → IsFirstFault (FieldFault j) bytes q → (k ≡ j) × (p ≡ q)
fault_once bytes k j p q one two =
    let whole : take p bytes ++ drop p bytes ≡ take q bytes ++ drop q bytes = take-append-drop p bytes ∙ sym (take-append-drop q bytes) in
    let same = stops_once one.fields two.fields (take p bytes) (drop p bytes) (take q bytes) (drop q bytes) k j one.before two.before whole (fault_read k bytes p one) (fault_read j bytes q two) in
    let told : Err k ≡ Err j = sym (fault_read k bytes p one) ∙ ap field_at same.rest ∙ fault_read j bytes q two in
    let p-in = one.within in
    let q-in = two.within in
    (cc, omega (arith, ap length same.front, length-take p bytes, length-take q bytes))
