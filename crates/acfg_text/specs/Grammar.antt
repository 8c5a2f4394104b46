-- The grammar of the Protocol Buffers text format, by its rules: which tokens are read as which items, and which tokens
-- are left behind.
use Rattle.std.specs.Prelude.{◌≡◌, ℕ, suc, Bool, true, false, List, [], ◌∷◌, ◌++◌}
use Rattle.std.specs.Str.{is_utf8}
use Rattle.acfg_text.specs.declared.classes.Bracket.{Bracket}
use Rattle.acfg_text.specs.declared.classes.Class.TheVariants as c
use Rattle.acfg_text.specs.declared.tree.Item.{Item}
use Rattle.acfg_text.specs.declared.tree.Value.{Value}
use Rattle.acfg_text.specs.declared.tree.Value.TheVariants as v
use Rattle.acfg_text.specs.Trees.{item, tree}
use Rattle.acfg_text.specs.Terminals.{Terminal, terminal}
use Rattle.acfg_text.specs.Escapes.{spelled}

-- How many messages may be open in one another from here on; free: any number, and texts of any bytes.
pub data Room : Type 0 where
  free : Room
  left : ℕ → Room

-- where a message is entered, and what room its fields have
pub data Enters : Room → Room → Type 0 where
  enters_free : Enters free free
  enters_left : {n : ℕ} → Enters (left (suc n)) (left n)

-- a text's bytes are UTF-8, but for where any bytes will do
abbrev pub Takes : Room → List ℕ → Type 0
Takes free bytes = Unit {0}
Takes (left n) bytes = is_utf8 bytes ≡ true

-- one or more quoted tokens, whose values join
pub data Texts : List ℕ → List Terminal → List Terminal → Type 0 where
  last_text : {p : ℕ} {t : List ℕ} {rest : List Terminal} → Texts (spelled t) (terminal c.Quoted p t ∷ rest) rest
  more_texts : {p : ℕ} (t : List ℕ) (bytes : List ℕ) {ts rest : List Terminal} → Texts bytes ts rest
      → Texts (spelled t ++ bytes) (terminal c.Quoted p t ∷ ts) rest

-- a word, a number or a text
pub data Scalar (room : Room) : Value → List Terminal → List Terminal → Type 0 where
  word_is : {p : ℕ} {t : List ℕ} {rest : List Terminal} → Scalar room (v.Word p t) (terminal c.Word p t ∷ rest) rest
  number_is : {p : ℕ} {t : List ℕ} {rest : List Terminal}
      → Scalar room (v.Number p t) (terminal c.Number p t ∷ rest) rest
  text_is : {p : ℕ} {t bytes : List ℕ} {ts rest : List Terminal} → Texts bytes (terminal c.Quoted p t ∷ ts) rest
      → Takes room bytes → Scalar room (v.Text p bytes) (terminal c.Quoted p t ∷ ts) rest

-- at a field's end stands nothing, one comma or one semicolon
pub data Ends : List Terminal → List Terminal → Type 0 where
  bare_end : {ts : List Terminal} → Ends ts ts
  comma_end : {p : ℕ} {t : List ℕ} {rest : List Terminal} → Ends (terminal c.Comma p t ∷ rest) rest
  semicolon_end : {p : ℕ} {t : List ℕ} {rest : List Terminal} → Ends (terminal c.Semicolon p t ∷ rest) rest

mutual
  -- any number of fields
  pub data Fields : Room → List Item → List Terminal → List Terminal → Type 0 where
    no_fields : {room : Room} {ts : List Terminal} → Fields room [] ts ts
    more_fields : {room : Room} {i : Item} {items : List Item} {ts mid rest : List Terminal} → Field room i ts mid
        → Fields room items mid rest → Fields room (i ∷ items) ts rest

  -- a word, what it holds, and a field's end
  pub data Field : Room → Item → List Terminal → List Terminal → Type 0 where
    field_is : {room : Room} {p : ℕ} {t : List ℕ} {listed : Bool} {values : List Value} {ts mid rest : List Terminal}
        → Held room listed values ts mid → Ends mid rest
        → Field room (item t p listed values) (terminal c.Word p t ∷ ts) rest

  -- behind a field's name: `:` scalar, message, `:` message, list, `:` list
  pub data Held : Room → Bool → List Value → List Terminal → List Terminal → Type 0 where
    holds_scalar : {room : Room} {p : ℕ} {t : List ℕ} {value : Value} {ts rest : List Terminal}
        → Scalar room value ts rest → Held room false (value ∷ []) (terminal c.Colon p t ∷ ts) rest
    holds_message : {room : Room} {value : Value} {ts rest : List Terminal} → Message room value ts rest
        → Held room false (value ∷ []) ts rest
    holds_colon_message : {room : Room} {p : ℕ} {t : List ℕ} {value : Value} {ts rest : List Terminal}
        → Message room value ts rest → Held room false (value ∷ []) (terminal c.Colon p t ∷ ts) rest
    holds_list : {room : Room} {values : List Value} {ts rest : List Terminal} → Listed room false values ts rest
        → Held room true values ts rest
    holds_colon_list : {room : Room} {p : ℕ} {t : List ℕ} {values : List Value} {ts rest : List Terminal}
        → Listed room true values ts rest → Held room true values (terminal c.Colon p t ∷ ts) rest

  -- fields between two brackets of one kind
  pub data Message : Room → Value → List Terminal → List Terminal → Type 0 where
    message_is : {room inner : Room} {bracket : Bracket} {p e : ℕ} {t u : List ℕ} {items : List Item}
        {ts rest : List Terminal} → Enters room inner → Fields inner items ts (terminal (c.Close bracket) e u ∷ rest)
        → Message room (v.Message p (tree items e)) (terminal (c.Open bracket) p t ∷ ts) rest

  -- `[`, items, `]`; whether the list stands behind a colon
  pub data Listed : Room → Bool → List Value → List Terminal → List Terminal → Type 0 where
    empty_list : {room : Room} {colon : Bool} {p q : ℕ} {t u : List ℕ} {rest : List Terminal}
        → Listed room colon [] (terminal c.OpenList p t ∷ terminal c.CloseList q u ∷ rest) rest
    filled_list : {room : Room} {colon : Bool} {p : ℕ} {t : List ℕ} {values : List Value} {ts rest : List Terminal}
        → Elements room colon values ts rest → Listed room colon values (terminal c.OpenList p t ∷ ts) rest

  -- one or more items with a comma between each two, and the closing bracket
  pub data Elements : Room → Bool → List Value → List Terminal → List Terminal → Type 0 where
    last_element : {room : Room} {colon : Bool} {q : ℕ} {u : List ℕ} {value : Value} {ts rest : List Terminal}
        → Element room colon value ts (terminal c.CloseList q u ∷ rest) → Elements room colon (value ∷ []) ts rest
    more_elements : {room : Room} {colon : Bool} {q : ℕ} {u : List ℕ} {value : Value} {values : List Value}
        {ts mid rest : List Terminal} → Element room colon value ts (terminal c.Comma q u ∷ mid)
        → Elements room colon values mid rest → Elements room colon (value ∷ values) ts rest

  -- behind a colon a scalar or a message, else a message
  pub data Element : Room → Bool → Value → List Terminal → List Terminal → Type 0 where
    scalar_element : {room : Room} {value : Value} {ts rest : List Terminal} → Scalar room value ts rest
        → Element room true value ts rest
    message_element : {room : Room} {colon : Bool} {value : Value} {ts rest : List Terminal}
        → Message room value ts rest → Element room colon value ts rest

-- Of the text's own fields 32 messages may be open in one another: a field of depth 32 holds none.
abbrev pub Derives : List Terminal → List Item → Type 0
Derives ts items = Fields (left 32) items ts []

-- the tokens have the grammar's form, of any depth and with texts of any bytes
abbrev pub HasForm : List Terminal → List Item → Type 0
HasForm ts items = Fields free items ts []

-- the tokens begin some that have the grammar's form
abbrev pub Begins : List Terminal → Type 0
Begins ts = (more : List Terminal) × (items : List Item) × HasForm (ts ++ more) items
