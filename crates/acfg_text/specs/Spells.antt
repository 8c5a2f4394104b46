-- Which tree a text spells, and with which fault it is refused.
use Rattle.std.specs.Prelude.{◌≡◌, ℕ, ◌⊎◌, List, map, length}
use Rattle.acfg_text.specs.declared.tree.Tree.{Tree}
use Rattle.acfg_text.specs.declared.tree.Item.{Item}
use Rattle.acfg_text.specs.declared.fault.TextWhat.{TextWhat}
use Rattle.acfg_text.specs.Trees.{tree}
use Rattle.acfg_text.specs.Terminals.{Lexeme, terminal_of}
use Rattle.acfg_text.specs.Lexes.{Lexes, LexFault}
use Rattle.acfg_text.specs.Grammar.{Derives}
use Rattle.acfg_text.specs.TextFaults.{IsFirst}

-- The text is tokens that derive the tree by the grammar, no field of depth 32 holds a message, and each joined text is
-- UTF-8.
pub record Spells (text : List ℕ) (read : Tree) : Type 0 where
  pub found : List Lexeme
  pub items : List Item
  pub lexes : Lexes text found
  pub derives : Derives (map terminal_of found) items
  pub is : read ≡ tree items (length text)

-- the text is tokens, and this is the first fault of the grammar
pub record GrammarFault (text : List ℕ) (place : ℕ) (what : TextWhat) : Type 0 where
  pub found : List Lexeme
  pub lexes : Lexes text found
  pub first : IsFirst (map terminal_of found) (length text) place what

-- The text is refused with this fault: the first of its tokens, and where they have none the first of the grammar.
abbrev pub FirstFault : List ℕ → ℕ → TextWhat → Type 0
FirstFault text place what = LexFault text place what ⊎ GrammarFault text place what
