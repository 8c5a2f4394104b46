-- The function of the bytes, field after field.
use Rattle.std.proofs.Common.{◌≡◌, ℕ, zero, suc, ◌+◌, ◌-◌, ◌<◌, ◌≤◌, List, [], ◌∷◌, ◌++◌, length, Result, Ok, Err, refl, sym, ap, ◌∙◌, append_assoc, arith}
use Rattle.std.proofs.lemmas.List.{append-nil}
use Rattle.acfg_wire.specs.declared.fault.Fault.{Fault}
use Rattle.acfg_wire.specs.declared.fault.WireFault.{WireFault}
use Rattle.acfg_wire.specs.Fields.{WireField}
use Rattle.acfg_wire.specs.Reading.{field_at, fault_at}
use Rattle.acfg_wire.specs.Laid.{LaidField, laid, laid_within, next_laid, with_front}

-- what is laid of the rest makes the whole behind these fields
pub record IsLaidSoFar (bytes rest : List ℕ) (fields : List LaidField) : Type 0 where
  pub more : ℕ
  pub room : length rest ≤ more
  pub within : length rest ≤ length bytes
  pub whole : with_front fields (laid_within more (length bytes - length rest) rest) ≡ laid bytes

no_front : (read : Result (List LaidField) WireFault) → with_front [] read ≡ read
no_front (Ok fields) = refl
no_front (Err fault) = refl

front_joined : (front : List LaidField) (x : LaidField) (read : Result (List LaidField) WireFault) → with_front front (with_front (x ∷ []) read) ≡ with_front (front ++ x ∷ []) read
front_joined front x (Ok fields) = ap (λ (w : List LaidField). Ok w) (sym (append_assoc front (x ∷ []) fields))
front_joined front x (Err fault) = refl

pub laid_first : (bytes : List ℕ) → IsLaidSoFar bytes bytes []
unfolding laid
laid_first bytes = record {
  more = length bytes;
  room = omega arith;
  within = omega arith;
  whole = no_front _ ∙ ap (λ n. laid_within (length bytes) n bytes) (omega arith);
}

step : (more place : ℕ) (bytes : List ℕ) → 0 < length bytes → length bytes ≤ more
    → (less : ℕ) × (more ≡ suc less) × (laid_within more place bytes ≡ next_laid (λ at rest. laid_within less at rest) place (length bytes) (field_at bytes))
step more place [] some room = absurd (omega arith)
step zero place (b ∷ bs) some room = absurd (omega arith)
step (suc less) place (b ∷ bs) some room = (less, refl, refl)

pub laid_next : (bytes rest : List ℕ) (fields : List LaidField) (f : WireField) (behind : List ℕ) → IsLaidSoFar bytes rest fields → 0 < length rest → length behind < length rest → field_at rest ≡ Ok (f, behind)
    → IsLaidSoFar bytes behind (fields ++ (f, length bytes - length rest) ∷ [])
laid_next bytes rest fields f behind so_far some shorter read =
    let place : ℕ = length bytes - length rest in
    let s = step so_far.more place rest some so_far.room in
    let within = so_far.within in
    let room = so_far.room in
    let moved : place + (length rest - length behind) ≡ length bytes - length behind = omega (arith, within, shorter) in
    let laid_rest = s.2 ∙ ap (next_laid (λ at rest. laid_within s.0 at rest) place (length rest)) read ∙ ap (λ n. with_front ((f, place) ∷ []) (laid_within s.0 n behind)) moved in
    record {
      more = s.0;
      room = omega (arith, s.1, room, shorter);
      within = omega (arith, within, shorter);
      whole = sym (front_joined fields (f, place) _) ∙ ap (with_front fields) (sym laid_rest) ∙ so_far.whole;
    }

pub laid_fault : (bytes rest : List ℕ) (fields : List LaidField) (fault : Fault) → IsLaidSoFar bytes rest fields → 0 < length rest → field_at rest ≡ Err fault → laid bytes ≡ Err (fault_at fault (length bytes - length rest))
laid_fault bytes rest fields fault so_far some read =
    let place : ℕ = length bytes - length rest in
    let s = step so_far.more place rest some so_far.room in
    sym so_far.whole ∙ ap (with_front fields) (s.2 ∙ ap (next_laid (λ at rest. laid_within s.0 at rest) place (length rest)) read)

none_laid : (more place : ℕ) (rest : List ℕ) → length rest ≡ 0 → laid_within more place rest ≡ Ok []
none_laid more place [] none = refl
none_laid more place (b ∷ bs) none = absurd (omega arith)

pub laid_last : (bytes rest : List ℕ) (fields : List LaidField) → IsLaidSoFar bytes rest fields → length rest ≡ 0 → laid bytes ≡ Ok fields
laid_last bytes rest fields so_far none =
    sym so_far.whole ∙ ap (with_front fields) (none_laid so_far.more _ rest none) ∙ ap (λ (w : List LaidField). Ok w) (append-nil fields)
