-- What files of declarations and values declare and set, and their first fault (AOSP aconfig's messages).
use Rattle.std.specs.Prelude.{◌≡◌, ◌⊎◌, ℕ, ◌==◌, List, [], ◌∷◌, ◌++◌, filter_map, Option, None, Some, unwrap_or}
use Rattle.std.specs.Prelude.{if◌then◌else◌, codes}
use Rattle.std.specs.List.{flat_map}
use Rattle.std.specs.Option.{option_and_then}
use Rattle.std.specs.Str.{bytes_eq}
use Rattle.acfg_text.specs.declared.tree.Tree.{Tree, out-Tree}
use Rattle.acfg_text.specs.declared.tree.Item.{Item, out-Item}
use Rattle.acfg_text.specs.declared.tree.Value.{Value}
use Rattle.acfg_text.specs.declared.tree.Value.TheVariants as value
use Rattle.acfg_text.specs.declared.fault.TextWhat.{TextWhat}
use Rattle.acfg_text.specs.Spells.{Spells, FirstFault}
use Rattle.acfg_text.specs.Progress.{HasRead, Rest}
use Rattle.acfg_decls.specs.declared.flags.Purpose.{Purpose}
use Rattle.acfg_decls.specs.declared.flags.Purpose.TheVariants.{Unspecified, Feature, Bugfix}
use Rattle.acfg_decls.specs.declared.declared.Placed.{Placed}
use Rattle.acfg_decls.specs.declared.declared.DeclaredFlag.{DeclaredFlag}
use Rattle.acfg_decls.specs.declared.declared.DeclarationsFile.{DeclarationsFile}
use Rattle.acfg_decls.specs.declared.declared.FlagValue.{FlagValue}
use Rattle.acfg_decls.specs.declared.declared.ValuesFile.{ValuesFile}
use Rattle.acfg_text.specs.declared.fault.TextFault.{TextFault}
use Rattle.acfg_text.specs.declared.fault.TextFault.TheVariants as text
use Rattle.acfg_decls.specs.declared.faults.DeclFault.{DeclFault}
use Rattle.acfg_decls.specs.declared.faults.DeclFault.TheVariants.{At, OutOfMemory}
use Rattle.acfg_decls.specs.declared.faults.DeclWhat.{DeclWhat}
use Rattle.acfg_decls.specs.declared.faults.DeclWhat.TheVariants as what
use Rattle.acfg_decls.specs.declared.messages.Message.{Message}
use Rattle.acfg_decls.specs.declared.messages.Message.TheVariants as message
use Rattle.acfg_decls.specs.declared.messages.Words.{Words}
use Rattle.acfg_decls.specs.declared.messages.Words.TheVariants.{Booleans, Purposes, States, Permissions}
use Rattle.acfg_decls.specs.Walk.{depth, enum_value, first, item_faults, items_faults, walk}

-- ## Fields by their names

-- the value of the first field of a name
abbrev pub value_in : List ℕ → List Item → Option Value
value_in name [] = None
value_in name (item ∷ items) =
    if bytes_eq (out-Item item).name name then first (out-Item item).values else value_in name items

abbrev pub placed : Value → Option Placed
placed (value.Text place text) = Some (record { place = place; text = text })
placed _ = None

-- a text that a message may have
abbrev pub text_in : List ℕ → List Item → Option Placed
text_in name items = option_and_then placed (value_in name items)

-- a text that a message has, once the walk has found it whole
abbrev pub the_text : List ℕ → List Item → Placed
the_text name items = unwrap_or (text_in name items) (record { place = 0; text = [] })

-- the number of an enum or a bool, and 0 where it isn't given
abbrev pub number_in : Words → List ℕ → List Item → ℕ
number_in words name items = unwrap_or (option_and_then (enum_value words) (value_in name items)) 0

-- what is made of all values of the fields of a name
abbrev pub all_in : {X : Type 0} → (Value → Option X) → List ℕ → List Item → List X
all_in make name items =
    flat_map (λ item. if bytes_eq (out-Item item).name name then filter_map make (out-Item item).values else []) items

abbrev pub text_of : Value → Option (List ℕ)
text_of (value.Text place text) = Some text
text_of _ = None

-- ## Messages

abbrev pub purpose_of : ℕ → Purpose
purpose_of number = if number == 1 then Feature else (if number == 2 then Bugfix else Unspecified)

-- the purpose of a flag that has metadata: unspecified where the metadata has none
abbrev pub metadata_purpose : Value → Option Purpose
metadata_purpose (value.Message place tree) =
    Some (purpose_of (number_in Purposes (codes "purpose") (out-Tree tree).items))
metadata_purpose _ = None

-- what a `flag` declares, at its opening bracket
abbrev pub declared_flag : ℕ → List Item → DeclaredFlag
declared_flag place items = record {
  place = place;
  name = the_text (codes "name") items;
  namespace = the_text (codes "namespace") items;
  description = the_text (codes "description") items;
  bugs = all_in text_of (codes "bug") items;
  fixed = number_in Booleans (codes "is_fixed_read_only") items == 1;
  exported = number_in Booleans (codes "is_exported") items == 1;
  purpose = option_and_then metadata_purpose (value_in (codes "metadata") items);
}

abbrev pub flag_at : Value → Option DeclaredFlag
flag_at (value.Message place tree) = Some (declared_flag place (out-Tree tree).items)
flag_at _ = None

-- the fields that aren't flags; a word of private functions
abbrev pub others_in : List Item → List Item
others_in items =
    flat_map (λ item. if bytes_eq (out-Item item).name (codes "flag") then [] else item ∷ []) items

-- a file of these declarations, whose other fields these are
abbrev pub declared_by : List ℕ → List Item → List DeclaredFlag → ℕ → DeclarationsFile
declared_by source items flags end = record {
  source = source;
  «package» = the_text (codes "package") items;
  container = text_in (codes "container") items;
  flags = flags;
  end = end;
}

-- what a `flag_declarations` declares
abbrev pub declarations_in : List ℕ → Tree → DeclarationsFile
declarations_in source tree =
    declared_by source (out-Tree tree).items (all_in flag_at (codes "flag") (out-Tree tree).items) (out-Tree tree).end

-- what a `flag_value` sets, at its opening bracket
abbrev pub set_value : ℕ → List Item → FlagValue
set_value place items = record {
  place = place;
  «package» = the_text (codes "package") items;
  name = the_text (codes "name") items;
  enabled = number_in States (codes "state") items == 1;
  writable = number_in Permissions (codes "permission") items == 2;
}

abbrev pub value_at : Value → Option FlagValue
value_at (value.Message place tree) = Some (set_value place (out-Tree tree).items)
value_at _ = None

-- what a `flag_values` sets
abbrev pub values_in : List ℕ → Tree → ValuesFile
values_in source tree = record { source = source; values = all_in value_at (codes "flag_value") (out-Tree tree).items }

-- ## What reading answers

-- the text spells a message in which the walk finds no fault
pub record Passes (message : Message) (text : List ℕ) (tree : Tree) : Type 0 where
  pub spells : Spells text tree
  pub whole : walk depth message tree ≡ []

-- the text spells a message, and this is the walk's first fault
pub record FailsWalk (message : Message) (text : List ℕ) (place : ℕ) (fault : DeclWhat) : Type 0 where
  pub tree : Tree
  pub spells : Spells text tree
  pub first : first (walk depth message tree) ≡ Some (place, fault)

-- the text's own first fault
pub record FailsText (text : List ℕ) (place : ℕ) (fault : DeclWhat) : Type 0 where
  pub of : TextWhat
  pub is : fault ≡ what.Text of
  pub first : FirstFault text place of

-- the first fault of a file that has to be this message
abbrev pub Refuses : Message → List ℕ → ℕ → DeclWhat → Type 0
Refuses message text place fault = FailsText text place fault ⊎ FailsWalk message text place fault

-- What is told at a fault of a field, of fields that were read before it without one, to which those kept are as good:
-- what is left of the text has its fault, or else the field.
abbrev pub FailsAt : Message → List Item → Item → Rest → ℕ → DeclWhat → Type 0
FailsAt message earlier field rest place fault =
    (text : List ℕ) (items : List Item) → HasRead text (items ++ field ∷ []) rest
    → items_faults (walk 2) message [] items ≡ []
    → item_faults (walk 2) message items field ≡ item_faults (walk 2) message earlier field
    → Refuses message text place fault

-- the text declares this, under the name of its source
abbrev pub Declares : List ℕ → List ℕ → DeclarationsFile → Type 0
Declares source text file =
    (tree : Tree) × Passes message.FlagDeclarations text tree × (file ≡ declarations_in source tree)

-- the text sets this, under the name of its source
abbrev pub Sets : List ℕ → List ℕ → ValuesFile → Type 0
Sets source text file = (tree : Tree) × Passes message.FlagValues text tree × (file ≡ values_in source tree)

-- a text's fault, as one of the file
abbrev pub fault_of_text : TextFault → DeclFault
fault_of_text (text.At place of) = At place (what.Text of)
fault_of_text text.OutOfMemory = OutOfMemory
