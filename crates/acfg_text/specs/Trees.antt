-- The words for values of a tree: an item and a tree made of their parts.
use Rattle.std.specs.Prelude.{ℕ, Bool, List}
use Rattle.acfg_text.specs.declared.tree.Tree.{Tree}
use Rattle.acfg_text.specs.declared.tree.Tree.{roll-Tree}
use Rattle.acfg_text.specs.declared.tree.Item.{Item, roll-Item}
use Rattle.acfg_text.specs.declared.tree.Value.{Value}

-- a field with its name, the place of the name, and its values
unfoldable pub item : List ℕ → ℕ → Bool → List Value → Item
item name place listed values = roll-Item (record { name = name; place = place; listed = listed; values = values })

-- fields, and the place where they end
unfoldable pub tree : List Item → ℕ → Tree
tree items end = roll-Tree (record { items = items; end = end })
