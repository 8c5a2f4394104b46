-- What a cache is read as: its flags where each test holds, or else the first test that fails.
use Rattle.std.specs.Prelude.{◌≡◌, ◌⊎◌, ℕ, ◌==◌, Bool, true, false, not, ◌&&◌, IsTrue, List, [], ◌∷◌, ◌++◌, length}
use Rattle.std.specs.Prelude.{map, filter_map, Option, None, Some, is_some, IfSome, unwrap_or, Result, Ok, Err}
use Rattle.std.specs.Prelude.{if◌then◌else◌, IsUtf8}
use Rattle.std.specs.List.{AllByRecursion, flat_map, list_all, last_or}
use Rattle.std.specs.declared.cmp.Ordering.TheVariants.{Less, Equal}
use Rattle.std.specs.Ordering.{nat_cmp}
use Rattle.std.specs.Cmp.Lexicographic.{slice_cmp}
use Rattle.acfg_decls.specs.declared.flags.Flag.{Flag}
use Rattle.acfg_decls.specs.declared.flags.Point.{Point}
use Rattle.acfg_decls.specs.declared.flags.Purpose.{Purpose}
use Rattle.acfg_decls.specs.declared.flags.Purpose.TheVariants.{Unspecified, Feature, Bugfix}
use Rattle.acfg_decls.specs.Compile.{Rule, Name, Package, Container, Keeps}
use Rattle.acfg_decls.specs.Flags.{full_name}
use Rattle.acfg_wire.specs.declared.fault.WireFault.{WireFault}
use Rattle.acfg_wire.specs.Fields.{Value, delimited}
use Rattle.acfg_cache.specs.declared.table.Message.{Message}
use Rattle.acfg_cache.specs.declared.table.Message.TheVariants.{ParsedFlag}
use Rattle.acfg_cache.specs.declared.table.Form.{Form}
use Rattle.acfg_cache.specs.declared.fault.CacheFault.{CacheFault}
use Rattle.acfg_cache.specs.declared.fault.CacheFault.TheVariants as fault
use Rattle.acfg_cache.specs.Table.{may_be}
use Rattle.acfg_cache.specs.Parts.{Part, opened, parts_of}
use Rattle.acfg_cache.specs.Counted.{Held, Text, Number, Within, held, Leaf, text, texts, number, Counting, counting}

-- ## The flag of a message

-- a bool is true where its number isn't 0; one that isn't there is false
abbrev pub truth : ℕ → List Leaf → Bool
truth field leaves = not (unwrap_or (number field leaves) 0 == 0)

abbrev pub text_or_none : ℕ → List Leaf → List ℕ
text_or_none field leaves = unwrap_or (text field leaves) []

-- ENABLED is 1, READ_WRITE is 2
abbrev pub has_number : ℕ → ℕ → List Leaf → Bool
has_number field n leaves = unwrap_or (number field leaves) 0 == n

abbrev pub point : List Leaf → Point
point leaves =
    record { source = text_or_none 1 leaves; enabled = has_number 2 1 leaves; writable = has_number 3 2 leaves }

abbrev pub purpose : ℕ → Purpose
purpose n = if n == 1 then Feature else (if n == 2 then Bugfix else Unspecified)

-- All metadata messages of a flag are one message with their fields joined in order. Where none has a purpose it is
-- unspecified; a flag without metadata has none.
abbrev pub purpose_in : List (List Leaf) → Option Purpose
purpose_in [] = None
purpose_in (first ∷ more) = Some (purpose (unwrap_or (number 1 (flat_map (λ fields. fields) (first ∷ more))) 0))

-- the flag of these fields, once all that it requires is there
abbrev pub flag_of : Counting → Flag
flag_of counts =
    record {
      «package» = text_or_none 1 counts.said;
      name = text_or_none 2 counts.said;
      namespace = text_or_none 3 counts.said;
      description = text_or_none 4 counts.said;
      bugs = texts 5 counts.said;
      enabled = has_number 6 1 counts.said;
      writable = has_number 7 2 counts.said;
      trace = map point counts.traces;
      fixed = truth 9 counts.said;
      exported = truth 10 counts.said;
      container = text_or_none 11 counts.said;
      purpose = purpose_in counts.metadata;
    }

-- ## What is required

-- a trace has a source, a state and a permission
abbrev pub is_point : List Leaf → Bool
is_point leaves = is_some (text 1 leaves) && (is_some (number 2 leaves) && is_some (number 3 leaves))

abbrev pub is_empty : {X : Type 0} → List X → Bool
is_empty [] = true
is_empty (x ∷ xs) = false

-- a flag has package, name, namespace, description, container, state and permission
abbrev pub has_fields : List Leaf → Bool
has_fields said =
    is_some (text 1 said) && (is_some (text 2 said) && (is_some (text 3 said) && (is_some (text 4 said)
    && (is_some (text 11 said) && (is_some (number 6 said) && is_some (number 7 said))))))

-- it has at least one trace, and each of them is whole
abbrev pub is_whole : Counting → Bool
is_whole counts = has_fields counts.said && (not (is_empty counts.traces) && list_all is_point counts.traces)

-- ## The tests, in their order

-- each test but the first is of the flag at this position, from 0
pub data Test : Type 0 where
  -- a message has this wire fault; the test of one that has none isn't asked for
  Broken : WireFault → Test
  -- a text is UTF-8
  Utf8 : ℕ → List ℕ → Test
  -- a number is one that its enum has, on all of its 64 bits
  Known : ℕ → Form → ℕ → Test
  -- all that is required is there
  Whole : ℕ → Counting → Test
  -- a text is a lawful name
  Named : ℕ → Rule → List ℕ → Test
  -- a flag isn't both fixed and READ_WRITE
  Straight : ℕ → Flag → Test
  -- a flag isn't less than the one before it, nor equal to it, by the bytes of `package.name`
  Behind : ℕ → Option Flag → Flag → Test
  Apart : ℕ → Option Flag → Flag → Test

abbrev pub Holds : Test → Type 0
Holds (Broken wire) = ⊥
Holds (Utf8 i content) = IsUtf8 content
Holds (Known i form n) = IsTrue (may_be form n)
Holds (Whole i counts) = IsTrue (is_whole counts)
Holds (Named i rule content) = Keeps rule content
Holds (Straight i flag) = IsTrue (flag.fixed && flag.writable) → ⊥
Holds (Behind i before flag) = IfSome before (λ other. slice_cmp nat_cmp (full_name flag) (full_name other) ≡ Less → ⊥)
Holds (Apart i before flag) = IfSome before (λ other. slice_cmp nat_cmp (full_name flag) (full_name other) ≡ Equal → ⊥)

abbrev pub fault_of : Test → CacheFault
fault_of (Broken wire) = fault.Wire wire
fault_of (Utf8 i content) = fault.BadText i
fault_of (Known i form n) = fault.BadEnum i
fault_of (Whole i counts) = fault.Missing i
fault_of (Named i rule content) = fault.BadName i
fault_of (Straight i flag) = fault.BadPermission i
fault_of (Behind i before flag) = fault.Unsorted i
fault_of (Apart i before flag) = fault.Duplicate i

-- of these tests the first one that fails has this fault
abbrev pub FirstFails : List Test → CacheFault → Type 0
FirstFails [] told = ⊥
FirstFails (test ∷ tests) told = ((Holds test → ⊥) × (told ≡ fault_of test)) ⊎ (Holds test × FirstFails tests told)

-- ## Which tests there are

-- the wire fault of a message
abbrev pub wire_tests : Result (List Part) WireFault → List Test
wire_tests (Ok parts) = []
wire_tests (Err wire) = Broken wire ∷ []

-- a text or a number
abbrev pub leaf_tests : ℕ → Held → List Test
leaf_tests i (Text content) = Utf8 i content ∷ []
leaf_tests i (Number form n) = Known i form n ∷ []
leaf_tests i (Within message content) = []

-- the tests of what a field holds, where it counts
abbrev pub if_held : (Held → List Test) → Option Held → List Test
if_held tests None = []
if_held tests (Some what) = tests what

-- the fields of an inner message, in the order of their bytes
abbrev pub message_tests : ℕ → Message → List Part → List Test
message_tests i message parts = flat_map (λ part. if_held (leaf_tests i) (held message part)) parts

-- an inner message whose bytes begin here: its wire fault, and then its fields
abbrev pub within_tests : ℕ → Message → ℕ → List ℕ → List Test
within_tests i message begins content =
    wire_tests (opened begins content) ++ message_tests i message (parts_of (opened begins content))

-- a field of a flag
abbrev pub field_tests : ℕ → ℕ → Held → List Test
field_tests i begins (Text content) = Utf8 i content ∷ []
field_tests i begins (Number form n) = Known i form n ∷ []
field_tests i begins (Within message content) = within_tests i message begins content

-- the fields of a flag, in the order of their bytes
abbrev pub fields_tests : ℕ → List Part → List Test
fields_tests i parts = flat_map (λ part. if_held (field_tests i part.begins) (held ParsedFlag part)) parts

-- what is asked of a flag's names and of its permission
abbrev pub own_tests : ℕ → Flag → List Test
own_tests i flag =
    Named i Package flag.package
    ∷ (Named i Name flag.name
    ∷ (Named i Name flag.namespace ∷ (Named i Container flag.container ∷ (Straight i flag ∷ []))))

-- what is asked of its place behind the flag before it
abbrev pub order_tests : ℕ → Option Flag → Flag → List Test
order_tests i before flag = Behind i before flag ∷ (Apart i before flag ∷ [])

-- The message of a flag: where its bytes begin, and the bytes. It is a field 1 of the cache that has bytes.
abbrev pub bytes_at : ℕ → Value → Option (ℕ × List ℕ)
bytes_at begins (delimited content) = Some (begins, content)
bytes_at begins _ = None

abbrev pub flag_at : Part → Option (ℕ × List ℕ)
flag_at part = if part.number == 1 then bytes_at part.begins part.value else None

abbrev pub fields_of_flag : ℕ × List ℕ → List Part
fields_of_flag message = parts_of (opened message.0 message.1)

abbrev pub flag_in : ℕ × List ℕ → Flag
flag_in message = flag_of (counting (fields_of_flag message))

-- what a flag lacks, and then its names and its permission
abbrev pub made_tests : ℕ → Counting → List Test
made_tests i counts = Whole i counts ∷ own_tests i (flag_of counts)

-- a flag by itself: its wire fault, its fields, and what they make
abbrev pub flag_tests : ℕ → ℕ × List ℕ → List Test
flag_tests i message =
    wire_tests (opened message.0 message.1)
    ++ (fields_tests i (fields_of_flag message) ++ made_tests i (counting (fields_of_flag message)))

-- flags one after another, behind these
abbrev pub flags_tests : List Flag → List (ℕ × List ℕ) → List Test
flags_tests before [] = []
flags_tests before (message ∷ messages) =
    (flag_tests (length before) message ++ order_tests (length before) (last_or None before) (flag_in message))
    ++ flags_tests (before ++ flag_in message ∷ []) messages

-- the messages of the flags of a cache
abbrev pub messages : List ℕ → List (ℕ × List ℕ)
messages bytes = filter_map flag_at (parts_of (opened 0 bytes))

-- the wire fault of the whole, and then the flags
abbrev pub cache_tests : List ℕ → List Test
cache_tests bytes = wire_tests (opened 0 bytes) ++ flags_tests [] (messages bytes)

-- ## What decoding answers

-- A cache is read as these flags: every test holds, and they are the flags of its messages.
pub record Reads (bytes : List ℕ) (flags : List Flag) : Type 0 where
  pub passed : AllByRecursion Holds (cache_tests bytes)
  pub are : flags ≡ map flag_in (messages bytes)

-- the first fault of a cache
abbrev pub FirstFault : List ℕ → CacheFault → Type 0
FirstFault bytes = FirstFails (cache_tests bytes)

-- a fault, for which this holds; nothing is said of a want of memory
abbrev pub IfFault : CacheFault → (CacheFault → Type 0) → Type 0
IfFault fault.OutOfMemory P = Unit {0}
IfFault told P = P told
