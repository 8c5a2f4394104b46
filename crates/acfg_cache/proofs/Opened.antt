-- Fields placed in the cache, one after another, and the wire fault of a message.
use Rattle.std.proofs.Common.{◌≡◌, ℕ, zero, suc, ◌+◌, ◌-◌, ◌<◌, ◌≤◌, ◌⊎◌, List, [], ◌∷◌, ◌++◌, length, drop, get_or, Some, slice_get, append_assoc, Err, refl, sym, ap, subst, ◌∙◌, arith, inl, inr}
use Rattle.std.proofs.Common.{take}
use Rattle.std.specs.Prelude.{slice_index_or}
use Rattle.std.proofs.Math.Seq.{take-append_seam}
use Rattle.std.proofs.lemmas.Bool.{cases_lt}
use Rattle.std.proofs.lemmas.List.{get_or_default, get_or_past, map_push}
use Rattle.std.proofs.lemmas.Option.{get_or_from_slice_get, slice_get_within}
use Rattle.acfg_wire.specs.declared.fault.WireFault.{WireFault}
use Rattle.acfg_wire.specs.declared.fault.WireFault.TheVariants.{Truncated, LongVarint, BadType, OutOfMemory}
use Rattle.acfg_wire.specs.declared.field.Field.{Field}
use Rattle.acfg_wire.specs.Fields.{BeginAt, ValuesLieIn, content_of, fields_of, places_of, value_of}
use Rattle.acfg_wire.specs.Outcome.{moved}
use Rattle.acfg_wire.specs.Laid.{laid, laid_of}
use Rattle.acfg_cache.specs.Parts.{end_before, opened, opened_as, parts_in}
use Rattle.acfg_cache.specs.Reading.{IfFault}
use Rattle.acfg_cache.specs.Bodies.{ReadFails, fault_moved, part_read, parts_read}
use Rattle.acfg_cache.proofs.Steps.{next}

broken : (at : ℕ) (bytes : List ℕ) (fault : WireFault) → laid bytes ≡ Err fault → IfFault (fault_moved at fault) (ReadFails (opened at bytes))
unfolding opened
broken at bytes (Truncated place) is = (moved at (Truncated place), ap (opened_as at (length bytes)) is, refl)
broken at bytes (LongVarint place) is = (moved at (LongVarint place), ap (opened_as at (length bytes)) is, refl)
broken at bytes (BadType place) is = (moved at (BadType place), ap (opened_as at (length bytes)) is, refl)
broken at bytes OutOfMemory is = tt

pub opened_fails : (at : ℕ) (bytes : List ℕ) (fault : WireFault) → (fault ≡ OutOfMemory) ⊎ (laid bytes ≡ Err fault) → IfFault (fault_moved at fault) (ReadFails (opened at bytes))
opened_fails at bytes fault (inl memory) = subst (λ f. IfFault (fault_moved at f) (ReadFails (opened at bytes))) (sym memory) tt
opened_fails at bytes fault (inr is) = broken at bytes fault is

-- where a field ends, by the places of all
ends : (total : ℕ) (fields : List Field) → end_before total (laid_of fields) ≡ slice_index_or (places_of fields) 0 total
ends total [] = refl
ends total (field ∷ fields) = refl

dropped : (total : ℕ) (fields : List Field) (i : ℕ) → end_before total (laid_of (drop i fields)) ≡ slice_index_or (places_of fields) i total
dropped total fields zero = ends total fields
dropped total [] (suc i) = refl
dropped total (field ∷ fields) (suc i) = dropped total fields i

-- ---- fields that are the same from a place on

tail_suc : {X : Type 0} (xs : List X) (i : ℕ) → drop 1 (drop i xs) ≡ drop (suc i) xs
tail_suc xs zero = refl
tail_suc [] (suc i) = refl
tail_suc (x ∷ xs) (suc i) = tail_suc xs i

tail_drop : {X : Type 0} (xs : List X) (i : ℕ) → drop 1 (drop i xs) ≡ drop (i + 1) xs
tail_drop xs i = let next : suc i ≡ i + 1 = omega arith in tail_suc xs i ∙ ap (λ n. drop n xs) next

slice_front : {X : Type 0} (xs : List X) (i : ℕ) → slice_get (drop i xs) 0 ≡ slice_get xs i
slice_front xs zero = refl
slice_front [] (suc i) = refl
slice_front (x ∷ xs) (suc i) = slice_front xs i

pub rest_same : {X : Type 0} (now old : List X) (i : ℕ) → drop i now ≡ drop i old → drop (i + 1) now ≡ drop (i + 1) old
rest_same now old i rest = sym (tail_drop now i) ∙ ap (λ xs. drop 1 xs) rest ∙ tail_drop old i

pub got_same : {X : Type 0} (now old : List X) (i : ℕ) → drop i now ≡ drop i old → slice_get old i ≡ slice_get now i
got_same now old i rest = sym (slice_front old i) ∙ ap (λ xs. slice_get xs 0) (sym rest) ∙ slice_front now i

pub end_same : (total : ℕ) (now old : List Field) (i : ℕ) → drop i now ≡ drop i old → slice_index_or (places_of now) (i + 1) total ≡ slice_index_or (places_of old) (i + 1) total
end_same total now old i rest =
    sym (dropped total now (i + 1)) ∙ ap (λ fields. end_before total (laid_of fields)) (rest_same now old i rest) ∙ dropped total old (i + 1)

-- a field, and those behind it
pub parts_next : (at total : ℕ) (fields : List Field) (i : ℕ) (field : Field) (end : ℕ) → i < length fields → field ≡ get_or fields i field → end ≡ slice_index_or (places_of fields) (i + 1) total
    → parts_in at total (laid_of (drop i fields))
    ≡ record { number = field.number; value = value_of field.value; begins = at + (end - length (content_of (value_of field.value))) } ∷ parts_in at total (laid_of (drop (i + 1) fields))
parts_next at total fields i field end within is ends_at =
    ap (λ fs. parts_in at total (laid_of fs)) (next fields i field within is)
    ∙ ap (λ n. record { number = field.number; value = value_of field.value; begins = at + (n - length (content_of (value_of field.value))) } ∷ parts_in at total (laid_of (drop (i + 1) fields))) (dropped total fields (i + 1) ∙ sym ends_at)

-- the content of a field is no longer than its end is far
pub content_ends : (bytes : List ℕ) (fields : List Field) (i : ℕ) (field : Field) (end len : ℕ) → ValuesLieIn bytes fields → slice_get fields i ≡ Some field → end ≡ slice_index_or (places_of fields) (i + 1) (length bytes) → len ≡ length (content_of (value_of field.value)) → len ≤ end
content_ends bytes fields i field end len lie is ends_at counted =
    let behind = (lie i field is).behind in
    omega (arith, behind, ends_at, counted)

-- a field ends within the message
pub ends_within : (bytes : List ℕ) (fields : List Field) (i end : ℕ) → BeginAt bytes (fields_of fields) (places_of fields) → end ≡ slice_index_or (places_of fields) (i + 1) (length bytes) → end ≤ length bytes
ends_within bytes fields i end begin ends_at =
    let places = places_of fields in
    elim (cases_lt (i + 1) (length places)) [
      | inl inside ↦
          let each = begin.each in
          let in_fields : i + 1 < length (fields_of fields) = omega (arith, each, inside) in
          let within = begin.within (i + 1) in_fields in
          let same = get_or_default places (i + 1) (length bytes) 0 inside in
          omega (arith, ends_at, within, same)
      | inr past ↦
          let none = get_or_past places (i + 1) (length bytes) past in
          omega (arith, ends_at, none)
    ]

-- one more field is placed
pub placed_next : (at total : ℕ) (fields : List Field) (i : ℕ) (field : Field) (end len : ℕ) (read : Field) (before after : List Field) → slice_get fields i ≡ Some field → end ≡ slice_index_or (places_of fields) (i + 1) total → len ≡ length (content_of (value_of field.value))
    → read ≡ record { number = field.number; place = at + (end - len); value = field.value } → after ≡ before ++ read ∷ []
    → parts_read before ++ parts_in at total (laid_of (drop i fields)) ≡ parts_in at total (laid_of fields)
    → parts_read after ++ parts_in at total (laid_of (drop (i + 1) fields)) ≡ parts_in at total (laid_of fields)
placed_next at total fields i field end len read before after is ends_at counted made more so_far =
    let within = slice_get_within fields i field is in
    let rest = parts_in at total (laid_of (drop (i + 1) fields)) in
    let here = parts_next at total fields i field end within (sym (get_or_from_slice_get fields i field field is)) ends_at in
    let part : part_read read ≡ record { number = field.number; value = value_of field.value; begins = at + (end - length (content_of (value_of field.value))) } = ap part_read made ∙ ap (λ n. record { number = field.number; value = value_of field.value; begins = at + (end - n) }) counted in
    ap (λ ps. parts_read ps ++ rest) more ∙ ap (λ ps. ps ++ rest) (map_push part_read before read) ∙ append_assoc (parts_read before) (part_read read ∷ []) rest
    ∙ ap (λ p. parts_read before ++ (p ∷ rest)) part ∙ ap (λ ps. parts_read before ++ ps) (sym here) ∙ so_far

-- fields that were lent are, when they come back, the list that they were left as
pub lent : (new items : List Field) (n : ℕ) → n ≡ length items → length new ≡ length items → take n (new ++ drop (length new) items) ≡ new
lent new items n size same = ap (λ (k : ℕ). take k (new ++ drop (length new) items)) (size ∙ sym same) ∙ take-append_seam new (drop (length new) items)
