-- What is written, field by field: each message's bytes are its fields.
use Rattle.std.proofs.Common.{ℕ, ◌+◌, ◌*◌, ◌^◌, ◌<◌, ◌≤◌, Bool, true, false, List, [], ◌∷◌, ◌++◌, length, map, Option, None, Some, refl, sym, subst, append_assoc, arith}
use Rattle.std.specs.List.{flat_map}
use Rattle.std.proofs.lemmas.List.{append-nil, length-append}
use Rattle.acfg_decls.specs.declared.flags.Flag.{Flag}
use Rattle.acfg_decls.specs.declared.flags.Point.{Point}
use Rattle.acfg_decls.specs.declared.flags.Purpose.{Purpose}
use Rattle.acfg_decls.specs.declared.flags.Purpose.TheVariants.{Unspecified, Feature, Bugfix}
use Rattle.acfg_wire.specs.Varint.{shortest}
use Rattle.acfg_wire.specs.Fields.{WireField, IsFields, IsFieldNumber, varint, delimited, varint_field, bytes_field}
use Rattle.acfg_wire.proofs.Shortest.{varint_field_is, bytes_field_is}
use Rattle.acfg_cache.specs.Writing.{bool_number, cache, flag_bytes, last_fields, metadata_field, named_fields, permission_number, point_bytes, purpose_number, state_fields, state_number}

-- a field of bytes, and one of a number
abbrev pub text_field : ℕ → List ℕ → WireField
text_field number content = record { number = number; value = delimited content }

abbrev pub number_field : ℕ → ℕ → WireField
number_field number n = record { number = number; value = varint n }

abbrev pub point_fields : Point → List WireField
point_fields point =
    text_field 1 point.source ∷ number_field 2 (state_number point.enabled) ∷ number_field 3 (permission_number point.writable) ∷ []

abbrev pub purpose_fields : Purpose → List WireField
purpose_fields purpose = number_field 1 (purpose_number purpose) ∷ []

abbrev pub metadata_fields : Option Purpose → List WireField
metadata_fields None = []
metadata_fields (Some purpose) = text_field 12 (varint_field 1 (purpose_number purpose)) ∷ []

abbrev pub bug_fields : List (List ℕ) → List WireField
bug_fields bugs = map (λ bug. text_field 5 bug) bugs

abbrev pub trace_fields : List Point → List WireField
trace_fields trace = map (λ point. text_field 8 (point_bytes point)) trace

abbrev pub end_fields : Flag → List WireField
end_fields flag =
    number_field 9 (bool_number flag.fixed) ∷ number_field 10 (bool_number flag.exported) ∷ text_field 11 flag.container ∷ metadata_fields flag.purpose

abbrev pub flag_fields : Flag → List WireField
flag_fields flag =
    text_field 1 flag.package ∷ text_field 2 flag.name ∷ text_field 3 flag.namespace ∷ text_field 4 flag.description
    ∷ (bug_fields flag.bugs ++ (number_field 6 (state_number flag.enabled) ∷ number_field 7 (permission_number flag.writable) ∷ (trace_fields flag.trace ++ end_fields flag)))

abbrev pub cache_fields : List Flag → List WireField
cache_fields flags = map (λ flag. text_field 1 (flag_bytes flag)) flags

-- bytes that are not too many are these fields
pub record Spell (bytes : List ℕ) (fields : List WireField) : Type 0 where
  pub are : length bytes < 2 ^ 64 → IsFields bytes fields

-- a number that the format has
lawful : (number : ℕ) → 1 ≤ number → number ≤ 12 → IsFieldNumber number
lawful number least most = record { least = least; most = omega (arith, most) }

content_short : (number : ℕ) (content rest : List ℕ) → length (bytes_field number content ++ rest) < 2 ^ 64 → length content < 2 ^ 64
content_short number content rest short =
    let key = shortest (number * 8 + 2) in
    let size = shortest (length content) in
    omega (arith, length-append (key ++ (size ++ content)) rest, length-append key (size ++ content), length-append size content)

text_first : (number : ℕ) (content rest : List ℕ) (fields : List WireField) → 1 ≤ number → number ≤ 12 → Spell rest fields → Spell (bytes_field number content ++ rest) (text_field number content ∷ fields)
text_first number content rest fields least most behind =
    let text = bytes_field number content in
    record {
      are = λ short.
          let less : length rest < 2 ^ 64 = omega (arith, length-append text rest, short) in
          (text, (rest, refl, bytes_field_is number content (lawful number least most) (content_short number content rest short), behind.are less));
    }

number_first : (number n : ℕ) (rest : List ℕ) (fields : List WireField) → 1 ≤ number → number ≤ 12 → n < 2 ^ 64 → Spell rest fields → Spell (varint_field number n ++ rest) (number_field number n ∷ fields)
number_first number n rest fields least most small behind =
    let text = varint_field number n in
    record {
      are = λ short.
          let less : length rest < 2 ^ 64 = omega (arith, length-append text rest, short) in
          (text, (rest, refl, varint_field_is number n (lawful number least most) small, behind.are less));
    }

joined : (a b rest : List ℕ) (fields : List WireField) → Spell (a ++ (b ++ rest)) fields → Spell ((a ++ b) ++ rest) fields
joined a b rest fields spell = subst (λ (w : List ℕ). Spell w fields) (sym (append_assoc a b rest)) spell

ended : (bytes : List ℕ) (fields : List WireField) → Spell (bytes ++ []) fields → Spell bytes fields
ended bytes fields spell = subst (λ (w : List ℕ). Spell w fields) (append-nil bytes) spell

texts_first : {X : Type 0} (number : ℕ) (f : X → List ℕ) (xs : List X) (rest : List ℕ) (fields : List WireField) → 1 ≤ number → number ≤ 12 → Spell rest fields
    → Spell (flat_map (λ x. bytes_field number (f x)) xs ++ rest) (map (λ x. text_field number (f x)) xs ++ fields)
texts_first number f [] rest fields least most spell = spell
texts_first number f (x ∷ xs) rest fields least most spell =
    joined (bytes_field number (f x)) (flat_map (λ y. bytes_field number (f y)) xs) rest (text_field number (f x) ∷ (map (λ y. text_field number (f y)) xs ++ fields))
    (text_first number (f x) (flat_map (λ y. bytes_field number (f y)) xs ++ rest) (map (λ y. text_field number (f y)) xs ++ fields) least most
    (texts_first number f xs rest fields least most spell))

small_state : (b : Bool) → state_number b < 2 ^ 64
small_state true = omega arith
small_state false = omega arith

small_permission : (b : Bool) → permission_number b < 2 ^ 64
small_permission true = omega arith
small_permission false = omega arith

small_bool : (b : Bool) → bool_number b < 2 ^ 64
small_bool true = omega arith
small_bool false = omega arith

small_purpose : (purpose : Purpose) → purpose_number purpose < 2 ^ 64
small_purpose Unspecified = omega arith
small_purpose Feature = omega arith
small_purpose Bugfix = omega arith

none_left : Spell [] []
none_left = record { are = λ short. refl }

pub point_spells : (point : Point) → Spell (point_bytes point) (point_fields point)
point_spells point =
    text_first 1 point.source _ _ (omega arith) (omega arith)
    (number_first 2 (state_number point.enabled) _ _ (omega arith) (omega arith) (small_state point.enabled)
    (ended (varint_field 3 (permission_number point.writable)) _
    (number_first 3 (permission_number point.writable) [] [] (omega arith) (omega arith) (small_permission point.writable) none_left)))

pub purpose_spells : (purpose : Purpose) → Spell (varint_field 1 (purpose_number purpose)) (purpose_fields purpose)
purpose_spells purpose =
    ended (varint_field 1 (purpose_number purpose)) (purpose_fields purpose)
    (number_first 1 (purpose_number purpose) [] [] (omega arith) (omega arith) (small_purpose purpose) none_left)

metadata_spells : (purpose : Option Purpose) → Spell (metadata_field purpose) (metadata_fields purpose)
metadata_spells None = none_left
metadata_spells (Some purpose) =
    ended (bytes_field 12 (varint_field 1 (purpose_number purpose))) (metadata_fields (Some purpose))
    (text_first 12 (varint_field 1 (purpose_number purpose)) [] [] (omega arith) (omega arith) none_left)

end_spells : (flag : Flag) → Spell (last_fields flag) (end_fields flag)
end_spells flag =
    number_first 9 (bool_number flag.fixed) _ _ (omega arith) (omega arith) (small_bool flag.fixed)
    (number_first 10 (bool_number flag.exported) _ _ (omega arith) (omega arith) (small_bool flag.exported)
    (text_first 11 flag.container _ _ (omega arith) (omega arith) (metadata_spells flag.purpose)))

state_spells : (flag : Flag) (rest : List ℕ) (fields : List WireField) → Spell rest fields
    → Spell (state_fields flag ++ rest) (bug_fields flag.bugs ++ (number_field 6 (state_number flag.enabled) ∷ number_field 7 (permission_number flag.writable) ∷ (trace_fields flag.trace ++ fields)))
state_spells flag rest fields spell =
    let bugs : List ℕ = flat_map (λ bug. bytes_field 5 bug) flag.bugs in
    let six = varint_field 6 (state_number flag.enabled) in
    let seven = varint_field 7 (permission_number flag.writable) in
    let points : List ℕ = flat_map (λ point. bytes_field 8 (point_bytes point)) flag.trace in
    joined bugs (six ++ (seven ++ points)) rest _
    (texts_first 5 (λ (bug : List ℕ). bug) flag.bugs ((six ++ (seven ++ points)) ++ rest) _ (omega arith) (omega arith)
    (joined six (seven ++ points) rest _
    (number_first 6 (state_number flag.enabled) ((seven ++ points) ++ rest) _ (omega arith) (omega arith) (small_state flag.enabled)
    (joined seven points rest _
    (number_first 7 (permission_number flag.writable) (points ++ rest) _ (omega arith) (omega arith) (small_permission flag.writable)
    (texts_first 8 point_bytes flag.trace rest fields (omega arith) (omega arith) spell))))))

named_spells : (flag : Flag) (rest : List ℕ) (fields : List WireField) → Spell rest fields
    → Spell (named_fields flag ++ rest) (text_field 1 flag.package ∷ text_field 2 flag.name ∷ text_field 3 flag.namespace ∷ text_field 4 flag.description ∷ fields)
named_spells flag rest fields spell =
    let one = bytes_field 1 flag.package in
    let two = bytes_field 2 flag.name in
    let three = bytes_field 3 flag.namespace in
    let last = bytes_field 4 flag.description in
    joined one (two ++ (three ++ last)) rest _
    (text_first 1 flag.package ((two ++ (three ++ last)) ++ rest) _ (omega arith) (omega arith)
    (joined two (three ++ last) rest _
    (text_first 2 flag.name ((three ++ last) ++ rest) _ (omega arith) (omega arith)
    (joined three last rest _
    (text_first 3 flag.namespace (last ++ rest) _ (omega arith) (omega arith)
    (text_first 4 flag.description rest fields (omega arith) (omega arith) spell))))))

pub flag_spells : (flag : Flag) → Spell (flag_bytes flag) (flag_fields flag)
flag_spells flag = named_spells flag (state_fields flag ++ last_fields flag) _ (state_spells flag (last_fields flag) (end_fields flag) (end_spells flag))

pub cache_spells : (flags : List Flag) → Spell (cache flags) (cache_fields flags)
cache_spells flags =
    let fields : List WireField = cache_fields flags in
    ended (cache flags) fields
    (subst (λ (fs : List WireField). Spell (cache flags ++ []) fs) (append-nil fields) (texts_first 1 flag_bytes flags [] [] (omega arith) (omega arith) none_left))
