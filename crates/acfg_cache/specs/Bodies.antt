-- What private functions keep and answer, as the definitions have it. No public contract cites it.
use Rattle.std.specs.Prelude.{◌≡◌, ℕ, ◌+◌, ◌^◌, ◌<◌, List, [], ◌++◌, length, slice_index_or, map, Option, Result, Err}
use Rattle.acfg_wire.specs.declared.fault.WireFault.{WireFault}
use Rattle.acfg_wire.specs.declared.fault.WireFault.TheVariants as wire
use Rattle.acfg_wire.specs.Fields.{content_of, value_of}
use Rattle.acfg_wire.specs.Outcome.{moved}
use Rattle.acfg_cache.specs.declared.fault.CacheFault.{CacheFault}
use Rattle.acfg_cache.specs.declared.fault.CacheFault.TheVariants.{Wire, OutOfMemory}
use Rattle.acfg_wire.specs.declared.field.Field.{Field as PlacedField}
use Rattle.acfg_cache.specs.declared.leaves.Leaf.{Leaf as ReadLeaf}
use Rattle.acfg_cache.specs.declared.leaves.Leaf.TheVariants as read
use Rattle.acfg_cache.specs.declared.counting.Held.{Held as ReadHeld}
use Rattle.acfg_cache.specs.declared.counting.Held.TheVariants as got
use Rattle.acfg_cache.specs.declared.counting.Counted.{Counted}
use Rattle.std.specs.Global.{Vec}
use Rattle.std.specs.Borrow.{Bor}
use Rattle.acfg_cache.specs.Parts.{Part}
use Rattle.acfg_cache.specs.Counted.{Held, Text, Number, Within, Leaf, TextOf, NumberOf, Counting}
use Rattle.acfg_cache.specs.Counted.{leaf_of, number, trace_in, metadata_in}
use Rattle.std.specs.List.{cons_option, flat_map}
use Rattle.std.specs.declared.cmp.Ordering.TheVariants.{Less}
use Rattle.std.specs.Ordering.{nat_cmp}
use Rattle.std.specs.Cmp.Lexicographic.{slice_cmp}
use Rattle.acfg_decls.specs.declared.flags.Flag.{Flag}
use Rattle.acfg_decls.specs.Flags.{full_name}
use Rattle.acfg_cache.specs.declared.conditions.Names.{Names}

-- a field that was told its place, as the code has it
abbrev pub part_read : PlacedField → Part
part_read field = record { number = field.number; value = value_of field.value; begins = field.place }

abbrev pub parts_read : List PlacedField → List Part
parts_read fields = map part_read fields

-- a field's bytes end at a place that can be told
abbrev pub EndsWithin : PlacedField → Type 0
EndsWithin field = field.place + length (content_of (value_of field.value)) < 2 ^ 64

-- the place of a wire fault is within so many bytes
abbrev pub IsBehind : WireFault → ℕ → Type 0
IsBehind (wire.Truncated place) len = place < len
IsBehind (wire.LongVarint place) len = place < len
IsBehind (wire.BadType place) len = place < len
IsBehind wire.OutOfMemory len = Unit {0}

-- a wire fault of a message that begins at this place, as a fault of the cache
abbrev pub fault_moved : ℕ → WireFault → CacheFault
fault_moved at wire.OutOfMemory = OutOfMemory
fault_moved at fault = Wire (moved at fault)

-- the fault is the wire fault that was read
abbrev pub ReadFails : Result (List Part) WireFault → CacheFault → Type 0
ReadFails read told = (fault : WireFault) × (read ≡ Err fault) × (told ≡ Wire fault)

-- what a field holds, as the code has it
abbrev pub held_read : ReadHeld → Held
held_read (got.Text content) = Text content.now
held_read (got.Number form n) = Number form n
held_read (got.Within message content) = Within message content.now

-- texts and numbers as the code has them
abbrev pub leaf_read : ReadLeaf → Leaf
leaf_read (read.Text field text) = TextOf field text.now
leaf_read (read.Number field n) = NumberOf field n

abbrev pub leaves_read : List ReadLeaf → List Leaf
leaves_read leaves = map leaf_read leaves

abbrev pub messages_read : List (Vec ReadLeaf) → List (List Leaf)
messages_read messages = map (λ message. leaves_read message.items) messages

-- the fields that count, as the code has them
abbrev pub counted_read : Counted → Counting
counted_read counted = record {
  said = leaves_read counted.leaves.items;
  traces = messages_read counted.traces.items;
  metadata = messages_read counted.metadata.items;
}

-- fields that count, behind others
abbrev pub behind : Counting → Counting → Counting
behind counts more = record {
  said = counts.said ++ more.said;
  traces = counts.traces ++ more.traces;
  metadata = counts.metadata ++ more.metadata;
}

-- what one field adds: a text or a number, a trace, or metadata
abbrev pub counting_held : ℕ → ℕ → Held → Counting
counting_held number begins held = record {
  said = cons_option (leaf_of number held) [];
  traces = cons_option (trace_in begins held) [];
  metadata = cons_option (metadata_in begins held) [];
}

-- the bytes of an inner message end at a place that can be told
abbrev pub HeldEndsWithin : ℕ → Held → Type 0
HeldEndsWithin begins (Text content) = Unit {0}
HeldEndsWithin begins (Number form n) = Unit {0}
HeldEndsWithin begins (Within message content) = begins + length content < 2 ^ 64

-- the names of a flag
pub record AreNames (names : Names) (flag : Flag) : Type 0 where
  pub of_package : names.package ≡ flag.package
  pub of_name : names.name ≡ flag.name
  pub of_namespace : names.namespace ≡ flag.namespace
  pub of_container : names.container ≡ flag.container

-- the last number of a field of several messages, joined in order
abbrev pub joined_number : ℕ → List (List Leaf) → Option ℕ
joined_number field messages = number field (flat_map (λ fields. fields) messages)

-- the message of a flag whose bytes begin here
abbrev pub message_at : ℕ → Bor (List ℕ) → ℕ × List ℕ
message_at begins content = (begins, content.now)

-- each flag is less than the next one, by the bytes of `package.name`
abbrev pub Rise : List Flag → Type 0
Rise flags =
    (k : ℕ) (d : Flag) → k + 1 < length flags
    → slice_cmp nat_cmp (full_name (slice_index_or flags k d)) (full_name (slice_index_or flags (k + 1) d)) ≡ Less
