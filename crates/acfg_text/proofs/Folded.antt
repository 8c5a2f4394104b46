-- What is printed of values, items and trees, and what they are without places, by their parts.
use Rattle.std.proofs.Common.{◌≡◌, ◌∙◌, ap, sym, ℕ, Bool, true, List, ◌++◌, map}
use Rattle.acfg_text.specs.declared.tree.Tree.{Tree, fold-roll-Tree}
use Rattle.acfg_text.specs.declared.tree.Item.{Item, fold-roll-Item}
use Rattle.acfg_text.specs.declared.tree.Value.{Value, fold-roll-Value}
use Rattle.acfg_text.specs.declared.tree.Value.TheVariants as v
use Rattle.acfg_text.specs.declared.tree.Value.TheOpen as layer
use Rattle.std.specs.Prelude.{if◌then◌else◌}
use Rattle.std.specs.List.{flat_map}
use Rattle.acfg_text.specs.Trees.{item, tree}
use Rattle.acfg_text.specs.Printed.{Shown, scalar, quoted, braced, held, bracketed, value_step, item_step, tree_step, shown, printed_item, printed_fields}
use Rattle.acfg_text.specs.Unplaced.{value_at_0, item_at_0, tree_at_0, unplaced_value, unplaced_item, unplaced}

pub shown_word : (p : ℕ) (text : List ℕ) → shown (v.Word p text) ≡ scalar text
shown_word p text = ap shown (sym (v.rolls-Word p text)) ∙ fold-roll-Value Shown (List ℕ) (List (List ℕ)) value_step item_step tree_step (layer.Word p text)

pub shown_number : (p : ℕ) (text : List ℕ) → shown (v.Number p text) ≡ scalar text
shown_number p text = ap shown (sym (v.rolls-Number p text)) ∙ fold-roll-Value Shown (List ℕ) (List (List ℕ)) value_step item_step tree_step (layer.Number p text)

pub shown_text : (p : ℕ) (text : List ℕ) → shown (v.Text p text) ≡ scalar (quoted text)
shown_text p text = ap shown (sym (v.rolls-Text p text)) ∙ fold-roll-Value Shown (List ℕ) (List (List ℕ)) value_step item_step tree_step (layer.Text p text)

pub shown_message : (p : ℕ) (t : Tree) → shown (v.Message p t) ≡ record { message = true; text = braced (printed_fields t) }
shown_message p t = ap shown (sym (v.rolls-Message p t)) ∙ fold-roll-Value Shown (List ℕ) (List (List ℕ)) value_step item_step tree_step (layer.Message p t)

pub printed_item_is : (name : List ℕ) (place : ℕ) (listed : Bool) (values : List Value) → printed_item (item name place listed values) ≡ name ++ (if listed then bracketed (map shown values) else flat_map held (map shown values))
unfolding item
printed_item_is name place listed values = fold-roll-Item Shown (List ℕ) (List (List ℕ)) value_step item_step tree_step (record { name = name; place = place; listed = listed; values = values })

pub printed_fields_is : (items : List Item) (end : ℕ) → printed_fields (tree items end) ≡ map printed_item items
unfolding tree
printed_fields_is items end = fold-roll-Tree Shown (List ℕ) (List (List ℕ)) value_step item_step tree_step (record { items = items; end = end })

pub unplaced_word : (p : ℕ) (text : List ℕ) → unplaced_value (v.Word p text) ≡ v.Word 0 text
unplaced_word p text = ap unplaced_value (sym (v.rolls-Word p text)) ∙ fold-roll-Value Value Item Tree value_at_0 item_at_0 tree_at_0 (layer.Word p text)

pub unplaced_number : (p : ℕ) (text : List ℕ) → unplaced_value (v.Number p text) ≡ v.Number 0 text
unplaced_number p text = ap unplaced_value (sym (v.rolls-Number p text)) ∙ fold-roll-Value Value Item Tree value_at_0 item_at_0 tree_at_0 (layer.Number p text)

pub unplaced_text : (p : ℕ) (text : List ℕ) → unplaced_value (v.Text p text) ≡ v.Text 0 text
unplaced_text p text = ap unplaced_value (sym (v.rolls-Text p text)) ∙ fold-roll-Value Value Item Tree value_at_0 item_at_0 tree_at_0 (layer.Text p text)

pub unplaced_message : (p : ℕ) (t : Tree) → unplaced_value (v.Message p t) ≡ v.Message 0 (unplaced t)
unplaced_message p t = ap unplaced_value (sym (v.rolls-Message p t)) ∙ fold-roll-Value Value Item Tree value_at_0 item_at_0 tree_at_0 (layer.Message p t)

pub unplaced_item_is : (name : List ℕ) (place : ℕ) (listed : Bool) (values : List Value) → unplaced_item (item name place listed values) ≡ item name 0 listed (map unplaced_value values)
unfolding item
unplaced_item_is name place listed values = fold-roll-Item Value Item Tree value_at_0 item_at_0 tree_at_0 (record { name = name; place = place; listed = listed; values = values })

pub unplaced_is : (items : List Item) (end : ℕ) → unplaced (tree items end) ≡ tree (map unplaced_item items) 0
unfolding tree
unplaced_is items end = fold-roll-Tree Value Item Tree value_at_0 item_at_0 tree_at_0 (record { items = items; end = end })
