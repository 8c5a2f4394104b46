-- Messages that are opened: where their fields begin counts for nothing but the places of wire faults.
use Rattle.std.proofs.Common.{◌≡◌, ℕ, List, [], ◌∷◌, length, map, Option, None, Some, option_and_then, Result, Ok, Err, refl, sym, ap, subst, ◌∙◌}
use Rattle.std.specs.List.{AllByRecursion, cons_option}
use Rattle.acfg_wire.specs.declared.fault.WireFault.{WireFault}
use Rattle.acfg_wire.specs.Fields.{WireField, IsFields}
use Rattle.acfg_wire.specs.Laid.{LaidField, laid, fields_laid}
use Rattle.acfg_wire.proofs.Laying.{fields_are_laid}
use Rattle.acfg_cache.specs.declared.table.Message.{Message}
use Rattle.acfg_cache.specs.declared.table.Message.TheVariants.{ParsedFlag, Tracepoint, Metadata}
use Rattle.acfg_cache.specs.Parts.{Part, opened, opened_as, parts_in, parts_of}
use Rattle.acfg_cache.specs.Counted.{Held, Text, Number, Within, Leaf, counting, held, leaf, leaves, leaves_at, metadata, metadata_in, trace_in, traces}
use Rattle.acfg_cache.specs.Reading.{Holds, field_tests, fields_tests, if_held, leaf_tests, message_tests}
use Rattle.acfg_cache.proofs.Passed.{all_joined}

-- a field without its place, and one at the start of the cache
abbrev pub wire_of : Part → WireField
wire_of part = record { number = part.number; value = part.value }

abbrev pub bare : WireField → Part
bare field = record { number = field.number; value = field.value; begins = 0 }

wires_in : (at total : ℕ) (fields : List LaidField) → map wire_of (parts_in at total fields) ≡ fields_laid fields
wires_in at total [] = refl
wires_in at total (field ∷ fields) = ap (λ (rest : List WireField). field.0 ∷ rest) (wires_in at total fields)

-- a message that is opened, and its fields
pub record Opens (at : ℕ) (bytes : List ℕ) (fields : List WireField) : Type 0 where
  pub parts : List Part
  pub is : opened at bytes ≡ Ok parts
  pub are : map wire_of parts ≡ fields

pub opens : (at : ℕ) (bytes : List ℕ) (fields : List WireField) → IsFields bytes fields → Opens at bytes fields
unfolding opened
opens at bytes fields spelled =
    let here = fields_are_laid bytes fields spelled in
    record {
      parts = parts_in at (length bytes) here.all;
      is = ap (opened_as at (length bytes)) here.laid;
      are = wires_in at (length bytes) here.all ∙ here.are;
    }

-- ---- what counts

pub leaves_bare : (message : Message) (parts : List Part) → leaves message parts ≡ leaves message (map bare (map wire_of parts))
leaves_bare message [] = refl
leaves_bare message (part ∷ parts) = ap (cons_option (leaf message part)) (leaves_bare message parts)

leaves_read_anywhere : (message : Message) (at total : ℕ) (read : Result (List LaidField) WireFault) → leaves message (parts_of (opened_as at total read)) ≡ leaves message (parts_of (opened_as 0 total read))
leaves_read_anywhere message at total (Ok fields) =
    leaves_bare message (parts_in at total fields)
    ∙ ap (λ (ws : List WireField). leaves message (map bare ws)) (wires_in at total fields ∙ sym (wires_in 0 total fields))
    ∙ sym (leaves_bare message (parts_in 0 total fields))
leaves_read_anywhere message at total (Err fault) = refl

pub leaves_anywhere : (message : Message) (at : ℕ) (content : List ℕ) → leaves_at message at content ≡ leaves_at message 0 content
unfolding opened
leaves_anywhere message at content = leaves_read_anywhere message at (length content) (laid content)

-- what a message holds that is these fields
pub leaves_opened : (message : Message) (at : ℕ) (content : List ℕ) (fields : List WireField) → IsFields content fields → leaves_at message at content ≡ leaves message (map bare fields)
leaves_opened message at content fields spelled =
    let here = opens at content fields spelled in
    ap (λ read. leaves message (parts_of read)) here.is ∙ leaves_bare message here.parts ∙ ap (λ (ws : List WireField). leaves message (map bare ws)) here.are

trace_anywhere : (at : ℕ) (o : Option Held) → option_and_then (trace_in at) o ≡ option_and_then (trace_in 0) o
trace_anywhere at None = refl
trace_anywhere at (Some (Text content)) = refl
trace_anywhere at (Some (Number form n)) = refl
trace_anywhere at (Some (Within Tracepoint content)) = ap (λ (ls : List Leaf). Some ls) (leaves_anywhere Tracepoint at content)
trace_anywhere at (Some (Within ParsedFlag content)) = refl
trace_anywhere at (Some (Within Metadata content)) = refl

metadata_anywhere : (at : ℕ) (o : Option Held) → option_and_then (metadata_in at) o ≡ option_and_then (metadata_in 0) o
metadata_anywhere at None = refl
metadata_anywhere at (Some (Text content)) = refl
metadata_anywhere at (Some (Number form n)) = refl
metadata_anywhere at (Some (Within Metadata content)) = ap (λ (ls : List Leaf). Some ls) (leaves_anywhere Metadata at content)
metadata_anywhere at (Some (Within ParsedFlag content)) = refl
metadata_anywhere at (Some (Within Tracepoint content)) = refl

traces_bare : (parts : List Part) → traces parts ≡ traces (map bare (map wire_of parts))
traces_bare [] = refl
traces_bare (part ∷ parts) =
    ap (λ (o : Option (List Leaf)). cons_option o (traces parts)) (trace_anywhere part.begins (held ParsedFlag part))
    ∙ ap (cons_option (option_and_then (trace_in 0) (held ParsedFlag part))) (traces_bare parts)

metadata_bare : (parts : List Part) → metadata parts ≡ metadata (map bare (map wire_of parts))
metadata_bare [] = refl
metadata_bare (part ∷ parts) =
    ap (λ (o : Option (List Leaf)). cons_option o (metadata parts)) (metadata_anywhere part.begins (held ParsedFlag part))
    ∙ ap (cons_option (option_and_then (metadata_in 0) (held ParsedFlag part))) (metadata_bare parts)

pub counting_bare : (parts : List Part) (fields : List WireField) → map wire_of parts ≡ fields → counting parts ≡ counting (map bare fields)
counting_bare parts fields are =
    let same : counting parts ≡ counting (map bare (map wire_of parts)) = λ i. record { said = leaves_bare ParsedFlag parts i; traces = traces_bare parts i; metadata = metadata_bare parts i } in
    same ∙ ap (λ (ws : List WireField). counting (map bare ws)) are

-- ---- what is tested

-- the tests of a field of an inner message hold, and those of a field of a flag, wherever it begins
abbrev pub LeafPasses : Message → WireField → Type 0
LeafPasses message field = (i : ℕ) → AllByRecursion Holds (if_held (leaf_tests i) (held message (bare field)))

abbrev pub FieldPasses : WireField → Type 0
FieldPasses field = (i at : ℕ) → AllByRecursion Holds (if_held (field_tests i at) (held ParsedFlag (bare field)))

message_passes : (i : ℕ) (message : Message) (parts : List Part) → AllByRecursion (LeafPasses message) (map wire_of parts) → AllByRecursion Holds (message_tests i message parts)
message_passes i message [] pass = tt
message_passes i message (part ∷ parts) pass =
    all_joined (if_held (leaf_tests i) (held message part)) (message_tests i message parts) (pass.0 i) (message_passes i message parts pass.1)

pub leaves_pass : (i : ℕ) (message : Message) (parts : List Part) (fields : List WireField) → map wire_of parts ≡ fields → AllByRecursion (LeafPasses message) fields → AllByRecursion Holds (message_tests i message parts)
leaves_pass i message parts fields are pass = message_passes i message parts (subst (AllByRecursion (LeafPasses message)) (sym are) pass)

flag_passes : (i : ℕ) (parts : List Part) → AllByRecursion FieldPasses (map wire_of parts) → AllByRecursion Holds (fields_tests i parts)
flag_passes i [] pass = tt
flag_passes i (part ∷ parts) pass =
    all_joined (if_held (field_tests i part.begins) (held ParsedFlag part)) (fields_tests i parts) (pass.0 i part.begins) (flag_passes i parts pass.1)

pub fields_pass : (i : ℕ) (parts : List Part) (fields : List WireField) → map wire_of parts ≡ fields → AllByRecursion FieldPasses fields → AllByRecursion Holds (fields_tests i parts)
fields_pass i parts fields are pass = flag_passes i parts (subst (AllByRecursion FieldPasses) (sym are) pass)
