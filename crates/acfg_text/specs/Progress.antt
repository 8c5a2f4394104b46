-- How far a text has been read, field by field.
use Rattle.std.specs.Prelude.{◌≡◌, ℕ, true, List, [], ◌∷◌, ◌++◌, length, map}
use Rattle.acfg_text.specs.declared.tree.Item.{Item}
use Rattle.acfg_text.specs.declared.fault.TextWhat.{TextWhat}
use Rattle.acfg_text.specs.Trees.{tree}
use Rattle.acfg_text.specs.Terminals.{Lexeme, Terminal, terminal_of}
use Rattle.acfg_text.specs.Lexes.{Lexes}
use Rattle.acfg_text.specs.Spells.{Spells, FirstFault}
use Rattle.acfg_text.specs.Machine.{at_field, begin, run, st}
use Rattle.acfg_text.specs.Reading.{ahead}

-- what is left of a text: its terminals, and the length of the whole text
pub record Rest : Type 0 where
  pub ahead : List Terminal
  pub end : ℕ

abbrev pub rest_of : List Lexeme → ℕ → ℕ → Rest
rest_of tokens end at = record { ahead = ahead tokens at; end = end }

-- These fields of the text have been read, and this is left: the text is read as what is left is read behind them.
pub record HasRead (text : List ℕ) (items : List Item) (rest : Rest) : Type 0 where
  pub found : List Lexeme
  pub lexes : Lexes text found
  pub ends : rest.end ≡ length text
  pub leads : run true rest.end (map terminal_of found) begin ≡ run true rest.end rest.ahead (st at_field items [])

-- one more field, whatever has been read before
abbrev pub Reads : Rest → Item → Rest → Type 0
Reads before field after = (text : List ℕ) (items : List Item) → HasRead text items before
    → HasRead text (items ++ field ∷ []) after

-- what has been read is all that the text spells
abbrev pub IsAll : Rest → Type 0
IsAll rest = (text : List ℕ) (items : List Item) → HasRead text items rest → Spells text (tree items (length text))

-- the text spells what has been read, and fields that are left
abbrev pub IsReadable : Rest → Type 0
IsReadable rest = (text : List ℕ) (items : List Item) → HasRead text items rest
    → (more : List Item) × Spells text (tree (items ++ more) (length text))

-- the text is refused with this fault
abbrev pub Fails : Rest → ℕ → TextWhat → Type 0
Fails rest place what = (text : List ℕ) (items : List Item) → HasRead text items rest → FirstFault text place what
