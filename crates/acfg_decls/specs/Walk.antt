-- The walk over messages in text order, depth first: each field's tests, and what a message lacks at its end.
use Rattle.std.specs.Prelude.{ℕ, zero, suc, ◌+◌, ◌-◌, ◌*◌, ◌==◌, nat_lt, nat_le, Bool, true, false, ◌&&◌}
use Rattle.std.specs.Prelude.{◌||◌, not, List, [], ◌∷◌, ◌++◌, Option, None, Some, is_some, if◌then◌else◌}
use Rattle.std.specs.List.{flat_map, list_all, list_any}
use Rattle.std.specs.Option.{option_and_then}
use Rattle.std.specs.Str.{bytes_eq}
use Rattle.acfg_text.specs.declared.tree.Tree.{Tree, out-Tree}
use Rattle.acfg_text.specs.declared.tree.Item.{Item, out-Item}
use Rattle.acfg_text.specs.declared.tree.Value.{Value}
use Rattle.acfg_text.specs.declared.tree.Value.TheVariants as value
use Rattle.acfg_decls.specs.declared.faults.DeclWhat.{DeclWhat}
use Rattle.acfg_decls.specs.declared.faults.DeclWhat.TheVariants as what
use Rattle.acfg_decls.specs.declared.messages.Message.{Message}
use Rattle.acfg_decls.specs.declared.messages.Often.{Often}
use Rattle.acfg_decls.specs.declared.messages.Often.TheVariants.{Required, Repeated}
use Rattle.acfg_decls.specs.declared.messages.Words.{Words}
use Rattle.acfg_decls.specs.declared.messages.Form.{Form}
use Rattle.acfg_decls.specs.declared.messages.Form.TheVariants.{String, Enum, Inner}
use Rattle.acfg_decls.specs.declared.messages.Field.{Field}
use Rattle.acfg_decls.specs.Messages.{fields, numbers}

-- what a table has at a name
abbrev pub found : {X : Type 0} → List ℕ → List (List ℕ × X) → Option X
found name [] = None
found name (row ∷ rows) = if bytes_eq name row.0 then Some row.1 else found name rows

abbrev pub field_of : Message → List ℕ → Option Field
field_of message name = found name (fields message)

abbrev pub number_of : Words → List ℕ → Option ℕ
number_of words word = found word (numbers words)

-- ## Values

-- a byte as a digit of a base
abbrev pub digit : ℕ → ℕ → Option ℕ
digit base byte =
    let value =
    if nat_le 48 byte && nat_le byte 57 then byte - 48
    else (if nat_le 97 byte && nat_le byte 102 then byte - 87
    else (if nat_le 65 byte && nat_le byte 70 then byte - 55 else 16)) in
    if nat_lt value base then Some value else None

-- digits of a base, behind those that make this number
abbrev pub digits : ℕ → ℕ → List ℕ → Option ℕ
digits base number [] = Some number
digits base number (byte ∷ bytes) =
    option_and_then (λ value. digits base (number * base + value) bytes) (digit base byte)

-- behind `0x`, one digit or more
abbrev pub hexadecimal : List ℕ → Option ℕ
hexadecimal [] = None
hexadecimal (byte ∷ bytes) = digits 16 0 (byte ∷ bytes)

-- behind a leading zero: hexadecimal behind an `x` or `X`, else octal
abbrev pub behind_zero : List ℕ → Option ℕ
behind_zero [] = Some 0
behind_zero (byte ∷ bytes) = if (byte == 120) || (byte == 88) then hexadecimal bytes else digits 8 0 (byte ∷ bytes)

-- what a number's spelling stands for, where it stands for one: decimal without a leading zero, octal or hexadecimal
abbrev pub number_value : List ℕ → Option ℕ
number_value [] = None
number_value (byte ∷ bytes) = if byte == 48 then behind_zero bytes else digits 10 0 (byte ∷ bytes)

-- the number of an enum or a bool: that of one of its words, or a number that one of them stands for
abbrev pub enum_value : Words → Value → Option ℕ
enum_value words (value.Word place text) = number_of words text
enum_value words (value.Number place text) =
    option_and_then (λ number.
    if list_any (λ row. row.1 == number) (numbers words) then Some number else None) (number_value text)
enum_value words (value.Text place text) = None
enum_value words (value.Message place tree) = None

abbrev pub is_text : Value → Bool
is_text (value.Text place text) = true
is_text _ = false

abbrev pub is_message : Value → Bool
is_message (value.Message place tree) = true
is_message _ = false

-- whether a value is of a form
abbrev pub is_of : Form → Value → Bool
is_of String value = is_text value
is_of (Enum words) value = is_some (enum_value words value)
is_of (Inner message) value = is_message value

-- ## The walk

-- a place, and what is wrong there
abbrev pub Fault : Type 0
Fault = ℕ × DeclWhat

-- whether one of these fields has this name
abbrev pub stands : List ℕ → List Item → Bool
stands name items = list_any (λ item. bytes_eq (out-Item item).name name) items

abbrev pub is_once : Often → Bool
is_once Repeated = false
is_once _ = true

-- the faults within a value, where it is a message
abbrev pub inside : (Message → Tree → List Fault) → Form → Value → List Fault
inside walk (Inner message) (value.Message place tree) = walk message tree
inside walk _ _ = []

-- a field that the table has, behind these fields of its message
abbrev pub field_faults : (Message → Tree → List Fault) → List Item → Item → Field → List Fault
field_faults walk earlier item field =
    let it = out-Item item in
    (if is_once field.often && (it.listed || stands it.name earlier) then (it.place, what.TwiceGiven) ∷ [] else [])
    ++ ((if list_all (is_of field.form) it.values then [] else (it.place, what.BadScalar) ∷ [])
    ++ flat_map (inside walk field.form) it.values)

-- a field that the table has so, or lacks
abbrev pub known_faults : (Message → Tree → List Fault) → List Item → Item → Option Field → List Fault
known_faults walk earlier item None = ((out-Item item).place, what.UnknownField) ∷ []
known_faults walk earlier item (Some field) = field_faults walk earlier item field

-- a field
abbrev pub item_faults : (Message → Tree → List Fault) → Message → List Item → Item → List Fault
item_faults walk message earlier item = known_faults walk earlier item (field_of message (out-Item item).name)

-- fields one after another, behind others
abbrev pub items_faults : (Message → Tree → List Fault) → Message → List Item → List Item → List Fault
items_faults walk message earlier [] = []
items_faults walk message earlier (item ∷ items) =
    item_faults walk message earlier item ++ items_faults walk message (earlier ++ item ∷ []) items

abbrev pub is_required : Often → Bool
is_required Required = true
is_required _ = false

-- whether each field that a message has to have stands among these
abbrev pub is_whole : Message → List Item → Bool
is_whole message items = list_all (λ row. not (is_required row.1.often) || stands row.0 items) (fields message)

-- The faults of a message and of the messages in it, so many deep, in the order in which they are told: of each field
-- those that come first hide the others.
abbrev pub walk : ℕ → Message → Tree → List Fault
walk zero message tree = []
walk (suc depth) message tree =
    items_faults (walk depth) message [] (out-Tree tree).items
    ++ (if is_whole message (out-Tree tree).items then [] else ((out-Tree tree).end, what.MissingField) ∷ [])

-- no message of the table is deeper
abbrev pub depth : ℕ
depth = 3

-- the first of some faults
abbrev pub first : {X : Type 0} → List X → Option X
first [] = None
first (x ∷ xs) = Some x
