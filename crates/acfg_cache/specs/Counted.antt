-- The fields of a message that count: those whose number and type the table has.
use Rattle.std.specs.Prelude.{ℕ, ◌==◌, List, filter_map, Option, None, Some, option_and_then, if◌then◌else◌}
use Rattle.std.specs.List.{last_or}
use Rattle.acfg_wire.specs.Fields.{Value, varint, delimited}
use Rattle.acfg_cache.specs.declared.table.Message.{Message}
use Rattle.acfg_cache.specs.declared.table.Message.TheVariants.{ParsedFlag, Tracepoint, Metadata}
use Rattle.acfg_cache.specs.declared.table.Form.{Form}
use Rattle.acfg_cache.specs.declared.table.Form.TheVariants as form
use Rattle.acfg_cache.specs.Table.{form}
use Rattle.acfg_cache.specs.Parts.{Part, opened, parts_of}

-- what a field of the table holds: a text, a number of an enum or a bool, or the bytes of a message
pub data Held : Type 0 where
  Text : List ℕ → Held
  Number : Form → ℕ → Held
  Within : Message → List ℕ → Held

-- a value, where it is of the type that its form has: a length and bytes for texts and messages, else a varint
abbrev pub held_as : Form → Value → Option Held
held_as form.Text (delimited content) = Some (Text content)
held_as form.Text _ = None
held_as (form.Inner message) (delimited content) = Some (Within message content)
held_as (form.Inner message) _ = None
held_as form (varint n) = Some (Number form n)
held_as form _ = None

-- what a field holds, where the message has its number with its type; other fields don't count
abbrev pub held : Message → Part → Option Held
held message part = option_and_then (λ form. held_as form part.value) (form message part.number)

-- ## Texts and numbers

-- a text or a number, with the number of its field
pub data Leaf : Type 0 where
  TextOf : ℕ → List ℕ → Leaf
  NumberOf : ℕ → ℕ → Leaf

abbrev pub leaf_of : ℕ → Held → Option Leaf
leaf_of number (Text content) = Some (TextOf number content)
leaf_of number (Number form n) = Some (NumberOf number n)
leaf_of number (Within message content) = None

-- the texts and numbers among the fields of a message
abbrev pub leaf : Message → Part → Option Leaf
leaf message part = option_and_then (leaf_of part.number) (held message part)

abbrev pub leaves : Message → List Part → List Leaf
leaves message parts = filter_map (leaf message) parts

abbrev pub text_at : ℕ → Leaf → Option (List ℕ)
text_at field (TextOf of content) = if of == field then Some content else None
text_at field (NumberOf of n) = None

abbrev pub number_at : ℕ → Leaf → Option ℕ
number_at field (TextOf of content) = None
number_at field (NumberOf of n) = if of == field then Some n else None

-- all texts of a repeated field
abbrev pub texts : ℕ → List Leaf → List (List ℕ)
texts field leaves = filter_map (text_at field) leaves

-- of a singular field the last text counts, and the last number
abbrev pub text : ℕ → List Leaf → Option (List ℕ)
text field leaves = last_or None (texts field leaves)

abbrev pub number : ℕ → List Leaf → Option ℕ
number field leaves = last_or None (filter_map (number_at field) leaves)

-- ## Messages within a flag

-- the texts and numbers of a message whose bytes begin here
abbrev pub leaves_at : Message → ℕ → List ℕ → List Leaf
leaves_at message begins content = leaves message (parts_of (opened begins content))

abbrev pub trace_in : ℕ → Held → Option (List Leaf)
trace_in begins (Within Tracepoint content) = Some (leaves_at Tracepoint begins content)
trace_in begins _ = None

abbrev pub metadata_in : ℕ → Held → Option (List Leaf)
metadata_in begins (Within Metadata content) = Some (leaves_at Metadata begins content)
metadata_in begins _ = None

-- all traces among the fields of a flag, in their order, and all its metadata messages
abbrev pub traces : List Part → List (List Leaf)
traces parts = filter_map (λ part. option_and_then (trace_in part.begins) (held ParsedFlag part)) parts

abbrev pub metadata : List Part → List (List Leaf)
metadata parts = filter_map (λ part. option_and_then (metadata_in part.begins) (held ParsedFlag part)) parts

-- the fields of a flag that count
pub record Counting : Type 0 where
  pub said : List Leaf
  pub traces : List (List Leaf)
  pub metadata : List (List Leaf)

abbrev pub counting : List Part → Counting
counting parts = record { said = leaves ParsedFlag parts; traces = traces parts; metadata = metadata parts }
