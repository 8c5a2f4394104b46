-- Trees whose places don't count.
use Rattle.acfg_text.specs.declared.tree.Tree.{Tree, fold-Tree}
use Rattle.acfg_text.specs.declared.tree.Item.{Item, fold-Item}
use Rattle.acfg_text.specs.declared.tree.Value.{Value, fold-Value}
use Rattle.acfg_text.specs.declared.tree.Value.TheVariants as v
use Rattle.acfg_text.specs.declared.tree.Value.TheOpen.{Value-F, Item-F, Tree-F}
use Rattle.acfg_text.specs.declared.tree.Value.TheOpen as layer
use Rattle.acfg_text.specs.Trees.{item, tree}

-- One value, item or tree with the place 0, whose parts have been given it.
abbrev pub value_at_0 : Value-F Value Item Tree → Value
value_at_0 (layer.Word p text) = v.Word 0 text
value_at_0 (layer.Number p text) = v.Number 0 text
value_at_0 (layer.Text p text) = v.Text 0 text
value_at_0 (layer.Message p inner) = v.Message 0 inner

abbrev pub item_at_0 : Item-F Value Item Tree → Item
item_at_0 i = item i.name 0 i.listed i.values

abbrev pub tree_at_0 : Tree-F Value Item Tree → Tree
tree_at_0 t = tree t.items 0

abbrev pub unplaced_value : Value → Value
unplaced_value = fold-Value Value Item Tree value_at_0 item_at_0 tree_at_0

abbrev pub unplaced_item : Item → Item
unplaced_item = fold-Item Value Item Tree value_at_0 item_at_0 tree_at_0

-- the tree with every place 0
abbrev pub unplaced : Tree → Tree
unplaced = fold-Tree Value Item Tree value_at_0 item_at_0 tree_at_0
