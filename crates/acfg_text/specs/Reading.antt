-- Words of the reader's private contracts and of proofs alone: what its parts read, as runs of the machine.
use Rattle.std.specs.Prelude.{◌≡◌, ◌≢◌, ℕ, ◌+◌, ◌<◌, ◌≤◌, ◌^◌, Bool, true, false, List, [], ◌∷◌, ◌++◌, drop}
use Rattle.std.specs.Prelude.{length, map, Ok, Err}
use Rattle.std.specs.List.{All}
use Rattle.std.specs.Str.{IsAscii}
use Rattle.acfg_text.specs.declared.classes.Class.{Class}
use Rattle.acfg_text.specs.declared.classes.Class.TheVariants as c
use Rattle.acfg_text.specs.declared.terminals.Seen.{Seen}
use Rattle.acfg_text.specs.declared.classes.Bracket.{Bracket}
use Rattle.acfg_text.specs.declared.tree.Item.{Item}
use Rattle.acfg_text.specs.declared.tree.Value.TheVariants as v
use Rattle.acfg_text.specs.declared.tree.Value.{Value}
use Rattle.acfg_text.specs.declared.fault.TextWhat.{TextWhat}
use Rattle.acfg_text.specs.Trees.{item, tree}
use Rattle.acfg_text.specs.Terminals.{Lexeme, Terminal, terminal, terminal_of}
use Rattle.acfg_text.specs.TextFaults.{is_quoted, BeginsUnquoted}
use Rattle.acfg_text.specs.Machine.{Head, Slot, among, Frame, Mode, at_field, behind_field, behind_name, behind_colon}
use Rattle.acfg_text.specs.Machine.{in_list, at_item, behind_item, in_text, State, st, fault, settle, close_list, run}
use Rattle.acfg_text.specs.Machine.{begin, Waits}

abbrev pub terminal_at : Lexeme → Terminal
terminal_at token = terminal_of token

abbrev pub seen_of : Seen → Terminal
seen_of t = terminal t.class t.place t.text.now

-- the terminals from a token on
abbrev pub ahead : List Lexeme → ℕ → List Terminal
ahead tokens at = map terminal_at (drop at tokens)

-- a token that isn't quoted is ASCII
pub record IsPlain (token : Lexeme) : Type 0 where
  pub ascii : is_quoted (terminal_at token).class ≡ false → IsAscii token.text

-- tokens that can be read: each is plain, and their number is one of the machine's
abbrev pub ArePlain : List Lexeme → Type 0
ArePlain tokens = All IsPlain tokens × (length tokens < 2 ^ 64)

-- tokens that can be read, and the number of one of them or, at their end, of all
pub record IsReadAt (tokens : List Lexeme) (at : ℕ) : Type 0 where
  pub plain : ArePlain tokens
  pub within : at ≤ length tokens

-- this token stands there
abbrev pub IsNext : List Lexeme → ℕ → Seen → Type 0
IsNext tokens at t = ahead tokens at ≡ seen_of t ∷ ahead tokens (at + 1)

-- no field begins here
abbrev pub NoField : List Terminal → Type 0
NoField [] = Unit {0}
NoField (t ∷ ts) = t.class ≢ c.Word

abbrev pub IsQuoteAt : List Lexeme → ℕ → List ℕ → Type 0
IsQuoteAt tokens at text = (p : ℕ) × (ahead tokens at ≡ terminal c.Quoted p text ∷ ahead tokens (at + 1))

abbrev pub ClosesList : List Lexeme → ℕ → Type 0
ClosesList tokens at =
    (p : ℕ) × (text : List ℕ) × (ahead tokens at ≡ terminal c.CloseList p text ∷ ahead tokens (at + 1))

abbrev pub NoClosing : List Terminal → Type 0
NoClosing [] = Unit {0}
NoClosing (t ∷ ts) = t.class ≢ c.CloseList

abbrev pub ClosesNoList : List Lexeme → ℕ → Type 0
ClosesNoList tokens at = NoClosing (ahead tokens at)

-- neither a message nor a list opens with it
abbrev pub IsNoOpening : Class → Type 0
IsNoOpening (c.Open bracket) = ⊥
IsNoOpening c.OpenList = ⊥
IsNoOpening _ = Unit {0}

-- a field's end leads to where the next field is due
abbrev pub SkipsEnd : List Lexeme → ℕ → ℕ → Type 0
SkipsEnd tokens at next =
    (end : ℕ) (top : List Item) (frames : List Frame)
    → run true end (ahead tokens at) (st behind_field top frames)
    ≡ run true end (ahead tokens next) (st at_field top frames)

-- where a list is behind an item: at the next one, or closed
abbrev pub list_state : Bool → Head → Bool → List Value → List Item → List Frame → State
list_state true h colon values top frames = st (at_item h colon values) top frames
list_state false h colon values top frames = close_list h values top frames

-- where a reader stands: at a token of a text of this length, with this many messages open
pub record Cursor : Type 0 where
  pub tokens : List Lexeme
  pub end : ℕ
  pub depth : ℕ
  pub at : ℕ

abbrev pub cursor : List Lexeme → ℕ → ℕ → ℕ → Cursor
cursor tokens end depth at = record { tokens = tokens; end = end; depth = depth; at = at }

module _ (tokens : List Lexeme) (end : ℕ) where
  -- the machine goes from one state at a token to another one at a later token
  abbrev pub Leads : ℕ → State → ℕ → State → Type 0
  Leads from s at r = run true end (ahead tokens from) s ≡ run true end (ahead tokens at) r

  abbrev pub FailsBy : ℕ → State → ℕ → TextWhat → Type 0
  FailsBy from s p w = run true end (ahead tokens from) s ≡ Err (fault p w)

  -- where a field of the text's own is due, whichever were read before
  abbrev pub FailsNext : ℕ → ℕ → TextWhat → Type 0
  FailsNext from p w = (items : List Item) → FailsBy from (st at_field items []) p w

  abbrev pub ClosesBy : ℕ → Bracket → ℕ → Type 0
  ClosesBy at bracket place = (items : List Item) (f : Frame) (frames : List Frame) → f.bracket ≡ bracket
      → Leads at (st at_field items (f ∷ frames)) (at + 1)
      (settle f.head f.slot (v.Message f.place (tree items place)) f.top frames)

  abbrev pub FailsToClose : ℕ → Bracket → ℕ → TextWhat → Type 0
  FailsToClose at bracket p w =
      (items : List Item) (f : Frame) (frames : List Frame) → f.bracket ≡ bracket
      → FailsBy at (st at_field items (f ∷ frames)) p w

  abbrev pub GoesOn : ℕ → Bool → Type 0
  GoesOn at more =
      (h : Head) (colon : Bool) (values : List Value) (top : List Item) (frames : List Frame)
      → Leads at (st (behind_item h colon values) top frames) (at + 1) (list_state more h colon values top frames)

  abbrev pub FailsToGoOn : ℕ → ℕ → TextWhat → Type 0
  FailsToGoOn at p w =
      (h : Head) (colon : Bool) (values : List Value) (top : List Item) (frames : List Frame)
      → FailsBy at (st (behind_item h colon values) top frames) p w

  -- quoted tokens join to bytes, and no further one stands behind them
  pub record Joins (old : List ℕ) (from : ℕ) (bytes : List ℕ) (at : ℕ) : Type 0 where
    pub leads : (h : Head) (slot : Slot) (place : ℕ) (top : List Item) (frames : List Frame)
        → Leads from (st (in_text h slot place old) top frames) at (st (in_text h slot place bytes) top frames)
    pub ends : BeginsUnquoted (ahead tokens at)

  -- all tokens, from the first on
  abbrev pub ReadsAll : List Item → Type 0
  ReadsAll items = run true end (map terminal_at tokens) begin ≡ Ok items

  abbrev pub FailsAll : ℕ → TextWhat → Type 0
  FailsAll p w = run true end (map terminal_at tokens) begin ≡ Err (fault p w)

module _ (from : Cursor) where
  -- from the cursor on, in one state, the machine goes to another one at a later token
  abbrev pub Goes : State → ℕ → State → Type 0
  Goes s at r = Leads from.tokens from.end from.at s at r

  abbrev pub Halts : State → ℕ → TextWhat → Type 0
  Halts s p w = FailsBy from.tokens from.end from.at s p w

  pub record ReadsFields (items : List Item) (at : ℕ) : Type 0 where
    pub leads : (frames : List Frame) → length frames ≡ from.depth
        → Goes (st at_field [] frames) at (st at_field items frames)
    pub ends : NoField (ahead from.tokens at)

  abbrev pub FailsFields : ℕ → TextWhat → Type 0
  FailsFields p w = (frames : List Frame) → length frames ≡ from.depth → Halts (st at_field [] frames) p w

  abbrev pub ReadsField : Item → ℕ → Type 0
  ReadsField i at =
      (top : List Item) (frames : List Frame) → length frames ≡ from.depth
      → Goes (st at_field top frames) at (st at_field (top ++ i ∷ []) frames)

  abbrev pub FailsField : ℕ → TextWhat → Type 0
  FailsField p w =
      (top : List Item) (frames : List Frame) → length frames ≡ from.depth → Halts (st at_field top frames) p w

  abbrev pub ReadsHeld : Bool → List Value → ℕ → Type 0
  ReadsHeld listed values at = (h : Head) (top : List Item) (frames : List Frame) → length frames ≡ from.depth
      → Goes (st (behind_name h) top frames) at
      (st behind_field (top ++ item h.name h.place listed values ∷ []) frames)

  abbrev pub FailsHeld : ℕ → TextWhat → Type 0
  FailsHeld p w =
      (h : Head) (top : List Item) (frames : List Frame) → length frames ≡ from.depth
      → Halts (st (behind_name h) top frames) p w

  abbrev pub ReadsColon : Bool → List Value → ℕ → Type 0
  ReadsColon listed values at = (h : Head) (top : List Item) (frames : List Frame) → length frames ≡ from.depth
      → Goes (st (behind_colon h) top frames) at
      (st behind_field (top ++ item h.name h.place listed values ∷ []) frames)

  abbrev pub FailsColon : ℕ → TextWhat → Type 0
  FailsColon p w =
      (h : Head) (top : List Item) (frames : List Frame) → length frames ≡ from.depth
      → Halts (st (behind_colon h) top frames) p w

  abbrev pub ReadsList : Bool → List Value → ℕ → Type 0
  ReadsList colon values at =
      (h : Head) (top : List Item) (frames : List Frame) → length frames ≡ from.depth
      → Goes (st (in_list h colon) top frames) at (close_list h values top frames)

  abbrev pub FailsList : Bool → ℕ → TextWhat → Type 0
  FailsList colon p w =
      (h : Head) (top : List Item) (frames : List Frame) → length frames ≡ from.depth
      → Halts (st (in_list h colon) top frames) p w

  -- a value of this kind where one may come
  abbrev pub ReadsValue : Bool → Value → ℕ → Type 0
  ReadsValue colon value at =
      (mode : Mode) (h : Head) (slot : Slot) (top : List Item) (frames : List Frame) → Waits mode h slot colon
      → length frames ≡ from.depth → Goes (st mode top frames) at (settle h slot value top frames)

  abbrev pub FailsValue : Bool → ℕ → TextWhat → Type 0
  FailsValue colon p w =
      (mode : Mode) (h : Head) (slot : Slot) (top : List Item) (frames : List Frame) → Waits mode h slot colon
      → length frames ≡ from.depth → Halts (st mode top frames) p w

  abbrev pub ReadsElement : Bool → Value → ℕ → Type 0
  ReadsElement colon value at =
      (h : Head) (old : List Value) (top : List Item) (frames : List Frame) → length frames ≡ from.depth
      → Goes (st (at_item h colon old) top frames) at (settle h (among colon old) value top frames)

  abbrev pub FailsElement : Bool → ℕ → TextWhat → Type 0
  FailsElement colon p w =
      (h : Head) (old : List Value) (top : List Item) (frames : List Frame) → length frames ≡ from.depth
      → Halts (st (at_item h colon old) top frames) p w

  -- a scalar behind a colon or in a list that stands behind one
  abbrev pub FailsScalar : ℕ → TextWhat → Type 0
  FailsScalar p w =
      (h : Head) (old : List Value) (top : List Item) (frames : List Frame) → length frames ≡ from.depth
      → Halts (st (behind_colon h) top frames) p w × Halts (st (at_item h true old) top frames) p w
