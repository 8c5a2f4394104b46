-- The function of the bytes gives their outcome, and the places at which fields begin.
use Rattle.std.proofs.Common.{◌≡◌, ℕ, ◌+◌, ◌-◌, ◌≤◌, List, [], ◌∷◌, ◌++◌, length, take, drop, Result, Ok, Err, refl, sym, ap, subst, ◌∙◌, append_assoc, arith}
use Rattle.std.proofs.lemmas.List.{append-nil, length-append, length-drop, map_push, take-append-drop}
use Rattle.acfg_wire.specs.declared.fault.Fault.{Fault}
use Rattle.acfg_wire.specs.declared.fault.Fault.TheVariants as one
use Rattle.acfg_wire.specs.declared.fault.WireFault.{WireFault}
use Rattle.acfg_wire.specs.declared.fault.WireFault.TheVariants.{Truncated, LongVarint, BadType, OutOfMemory}
use Rattle.acfg_wire.specs.Fields.{WireField, IsField, IsFields, BeginAt}
use Rattle.acfg_wire.specs.Faults.{IsFirstFault}
use Rattle.acfg_wire.specs.Outcome.{IsOutcome}
use Rattle.acfg_wire.specs.Reading.{field_at, fault_at}
use Rattle.acfg_wire.specs.Laid.{LaidField, laid, fields_laid, places_laid, outcome_laid}
use Rattle.acfg_wire.proofs.FieldFacts.{field_again}
use Rattle.acfg_wire.proofs.FaultFacts.{FieldFault}
use Rattle.acfg_wire.proofs.Once.{fault_read}
use Rattle.acfg_wire.proofs.Joined.{IsFields-append, one_field, field_long, BeginAt-push}
use Rattle.acfg_wire.proofs.LaidFacts.{IsLaidSoFar, laid_first, laid_next, laid_fault, laid_last}

-- the fields in front were walked over
record IsWalked (bytes front rest : List ℕ) (fields : List WireField) (done : List LaidField) : Type 0 where
  are : fields_laid done ≡ fields
  so_far : IsLaidSoFar bytes rest done
  whole : IsFields front fields
  begin : BeginAt front fields (places_laid done)

walked_none : (bytes rest : List ℕ) → bytes ≡ rest → IsWalked bytes [] rest [] []
walked_none bytes rest same = record {
  are = refl;
  so_far = subst (λ (w : List ℕ). IsLaidSoFar bytes w []) same (laid_first bytes);
  whole = refl;
  begin = record { each = refl; within = λ i h. absurd (omega arith); before = λ i h. absurd (omega arith); onward = λ i h. absurd (omega arith) };
}

walked_next : (bytes front piece behind : List ℕ) (before : List WireField) (f : WireField) (done : List LaidField) → bytes ≡ front ++ (piece ++ behind) → IsField piece f
    → IsWalked bytes front (piece ++ behind) before done → IsWalked bytes (front ++ piece) behind (before ++ f ∷ []) (done ++ (f, length front) ∷ [])
walked_next bytes front piece behind before f done is field walked =
    let rest : List ℕ = piece ++ behind in
    let read : field_at rest ≡ Ok (f, behind) = field_again piece behind f field in
    let long : 1 ≤ length piece = field_long piece f field in
    let sized : length rest ≡ length piece + length behind = length-append piece behind in
    let place : length bytes - length rest ≡ length front = omega (arith, ap length is, length-append front rest) in
    let next = laid_next bytes rest done f behind walked.so_far (omega (arith, long, sized)) (omega (arith, long, sized)) read in
    record {
      are = map_push (λ (x : LaidField). x.0) done (f, length front) ∙ ap (λ (fs : List WireField). fs ++ f ∷ []) walked.are;
      so_far = subst (λ (n : ℕ). IsLaidSoFar bytes behind (done ++ (f, n) ∷ [])) place next;
      whole = IsFields-append front piece before (f ∷ []) walked.whole (one_field piece f field);
      begin = subst (λ (places : List ℕ). BeginAt (front ++ piece) (before ++ f ∷ []) places) (sym (map_push (λ (x : LaidField). x.1) done (f, length front)))
          (BeginAt-push front piece before f (places_laid done) walked.begin walked.whole field);
    }

walk : (bytes front rest text : List ℕ) (before fields : List WireField) (done : List LaidField) → bytes ≡ front ++ (text ++ rest) → IsFields text fields → IsWalked bytes front (text ++ rest) before done
    → (all : List LaidField) × IsWalked bytes (front ++ text) rest (before ++ fields) all
walk bytes front rest text before [] done is none walked =
    let moved : IsWalked bytes front rest before done = subst (λ (w : List ℕ). IsWalked bytes front (w ++ rest) before done) none walked in
    let ends : front ≡ front ++ text = sym (ap (λ (w : List ℕ). front ++ w) none ∙ append-nil front) in (
      done,
      subst (λ (w : List ℕ). IsWalked bytes w rest (before ++ []) done) ends (subst (λ (fs : List WireField). IsWalked bytes front rest fs done) (sym (append-nil before)) moved),
    )
walk bytes front rest text before (f ∷ fs) done is (piece, (more, parts, field, others)) walked =
    let here : text ++ rest ≡ piece ++ (more ++ rest) = ap (λ (w : List ℕ). w ++ rest) parts ∙ append_assoc piece more rest in
    let whole : bytes ≡ front ++ (piece ++ (more ++ rest)) = is ∙ ap (λ (w : List ℕ). front ++ w) here in
    let next = walked_next bytes front piece (more ++ rest) before f done whole field (subst (λ (w : List ℕ). IsWalked bytes front w before done) here walked) in
    let all = walk bytes (front ++ piece) rest more (before ++ f ∷ []) fs (done ++ (f, length front) ∷ []) (whole ∙ sym (append_assoc front piece (more ++ rest))) others next in
    let ends : (front ++ piece) ++ more ≡ front ++ text = append_assoc front piece more ∙ ap (λ (w : List ℕ). front ++ w) (sym parts) in (
      all.0,
      subst (λ (w : List ℕ). IsWalked bytes w rest (before ++ f ∷ fs) all.0) ends (subst (λ (gs : List WireField). IsWalked bytes ((front ++ piece) ++ more) rest gs all.0) (append_assoc before (f ∷ []) fs) all.1),
    )

-- bytes that are fields are laid as these, each where it begins
pub record IsLaid (bytes : List ℕ) (fields : List WireField) : Type 0 where
  pub all : List LaidField
  pub laid : laid bytes ≡ Ok all
  pub are : fields_laid all ≡ fields
  pub begin : BeginAt bytes fields (places_laid all)

pub fields_are_laid : (bytes : List ℕ) (fields : List WireField) → IsFields bytes fields → IsLaid bytes fields
fields_are_laid bytes fields h =
    let whole = sym (append-nil bytes) in
    let w = walk bytes [] [] bytes [] fields [] whole h (walked_none bytes (bytes ++ []) whole) in
    record { all = w.0; laid = laid_last bytes [] w.0 w.1.so_far refl; are = w.1.are; begin = w.1.begin }

pub faults_are_laid : (bytes : List ℕ) (kind : Fault) (place : ℕ) → IsFirstFault (FieldFault kind) bytes place → laid bytes ≡ Err (fault_at kind place)
faults_are_laid bytes kind place h =
    let within = h.within in
    let whole : bytes ≡ take place bytes ++ drop place bytes = sym (take-append-drop place bytes) in
    let w = walk bytes [] (drop place bytes) (take place bytes) [] h.fields [] whole h.before (walked_none bytes (take place bytes ++ drop place bytes) whole) in
    let sized = length-drop place bytes in
    let at : length bytes - length (drop place bytes) ≡ place = omega (arith, within, sized) in
    laid_fault bytes (drop place bytes) w.0 kind w.1.so_far (omega (arith, within, sized)) (fault_read kind bytes place h) ∙ ap (λ n. Err (fault_at kind n)) at

pub outcome_is_laid : (bytes : List ℕ) (outcome : Result (List WireField) WireFault) → IsOutcome bytes outcome → outcome_laid (laid bytes) ≡ outcome
outcome_is_laid bytes (Ok fields) h = let l = fields_are_laid bytes fields h in ap outcome_laid l.laid ∙ ap (λ (fs : List WireField). Ok fs) l.are
outcome_is_laid bytes (Err (Truncated place)) h = ap outcome_laid (faults_are_laid bytes one.Truncated place h)
outcome_is_laid bytes (Err (LongVarint place)) h = ap outcome_laid (faults_are_laid bytes one.LongVarint place h)
outcome_is_laid bytes (Err (BadType place)) h = ap outcome_laid (faults_are_laid bytes one.BadType place h)
outcome_is_laid bytes (Err OutOfMemory) h = absurd h

pub places_are_laid : (bytes : List ℕ) (fields : List LaidField) → IsFields bytes (fields_laid fields) → laid bytes ≡ Ok fields → BeginAt bytes (fields_laid fields) (places_laid fields)
places_are_laid bytes fields h is =
    let l = fields_are_laid bytes (fields_laid fields) h in
    let told : Ok l.all ≡ Ok fields = sym l.laid ∙ is in
    let same : l.all ≡ fields = cc in
    subst (λ (all : List LaidField). BeginAt bytes (fields_laid fields) (places_laid all)) same l.begin
