-- A tree as one line of text, in this project's own layout of the Protocol Buffers text format.
use Rattle.std.specs.Prelude.{ℕ, ◌+◌, ◌/◌, ◌%◌, ◌==◌, if◌then◌else◌, ◌&&◌, nat_le, Bool, true, false, List, [], ◌∷◌}
use Rattle.std.specs.Prelude.{◌++◌, map, codes}
use Rattle.std.specs.List.{flat_map}
use Rattle.acfg_base.specs.Bytes.{backslash, digit_zero, double_quote, space}
use Rattle.acfg_text.specs.declared.tree.Tree.{Tree, fold-Tree}
use Rattle.acfg_text.specs.declared.tree.Item.{Item, fold-Item}
use Rattle.acfg_text.specs.declared.tree.Value.{Value, fold-Value}
use Rattle.acfg_text.specs.declared.tree.Value.TheOpen.{Value-F, Item-F, Tree-F}
use Rattle.acfg_text.specs.declared.tree.Value.TheOpen as layer

-- a byte of a text between double quotes
unfoldable pub printed_byte : ℕ → List ℕ
printed_byte b = if b == backslash then codes "\\\\"
    else (if b == double_quote then codes "\\\""
    else (if nat_le space b && nat_le b 126 then b ∷ []
    else (backslash ∷ (digit_zero + b / 64) ∷ (digit_zero + b / 8 % 8) ∷ (digit_zero + b % 8) ∷ [])))

abbrev pub quoted : List ℕ → List ℕ
quoted bytes = double_quote ∷ (flat_map printed_byte bytes ++ double_quote ∷ [])

-- a value's text, and whether it is a message, which takes no colon
pub record Shown : Type 0 where
  pub message : Bool
  pub text : List ℕ

abbrev pub scalar : List ℕ → Shown
scalar text = record { message = false; text = text }

-- `{ FIELD FIELD }`
abbrev pub braced : List (List ℕ) → List ℕ
braced fields = codes "{ " ++ (flat_map (λ f. f ++ space ∷ []) fields ++ codes "}")

-- `: V`, or ` { FIELDS }`
abbrev pub held : Shown → List ℕ
held value = if value.message then space ∷ value.text else (codes ": " ++ value.text)

-- pieces with a separator between each two
abbrev pub separated : List ℕ → List (List ℕ) → List ℕ
separated separator [] = []
separated separator (piece ∷ pieces) = piece ++ flat_map (λ p. separator ++ p) pieces

-- `: [V, V]`
abbrev pub bracketed : List Shown → List ℕ
bracketed values = codes ": [" ++ (separated (codes ", ") (map (λ v. v.text) values) ++ codes "]")

-- One value, item or tree, with what is printed of its parts in their place.
abbrev pub value_step : Value-F Shown (List ℕ) (List (List ℕ)) → Shown
value_step (layer.Word p text) = scalar text
value_step (layer.Number p text) = scalar text
value_step (layer.Text p text) = scalar (quoted text)
value_step (layer.Message p fields) = record { message = true; text = braced fields }

abbrev pub item_step : Item-F Shown (List ℕ) (List (List ℕ)) → List ℕ
item_step i = i.name ++ (if i.listed then bracketed i.values else flat_map held i.values)

abbrev pub tree_step : Tree-F Shown (List ℕ) (List (List ℕ)) → List (List ℕ)
tree_step t = t.items

abbrev pub shown : Value → Shown
shown = fold-Value Shown (List ℕ) (List (List ℕ)) value_step item_step tree_step

abbrev pub printed_item : Item → List ℕ
printed_item = fold-Item Shown (List ℕ) (List (List ℕ)) value_step item_step tree_step

abbrev pub printed_fields : Tree → List (List ℕ)
printed_fields = fold-Tree Shown (List ℕ) (List (List ℕ)) value_step item_step tree_step

-- the fields of a tree, joined by one space
abbrev pub printed : Tree → List ℕ
printed t = separated (space ∷ []) (printed_fields t)
