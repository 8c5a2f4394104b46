-- The faults of the grammar, apart from any reader, and the first of them.
use Rattle.std.specs.Prelude.{◌≡◌, ℕ, ◌+◌, ◌-◌, ◌<◌, ◌≤◌, Bool, true, false, List, [], ◌∷◌, ◌++◌}
use Rattle.std.specs.Str.{is_utf8}
use Rattle.acfg_text.specs.declared.classes.Class.{Class}
use Rattle.acfg_text.specs.declared.classes.Class.TheVariants as c
use Rattle.acfg_text.specs.declared.tree.Item.{Item}
use Rattle.acfg_text.specs.declared.fault.TextWhat.{TextWhat}
use Rattle.acfg_text.specs.declared.fault.TextWhat.TheVariants.{Unexpected, TooDeep, BadUtf8}
use Rattle.acfg_text.specs.declared.fault.TextFault.{TextFault}
use Rattle.acfg_text.specs.declared.fault.TextFault.TheVariants.{At, OutOfMemory}
use Rattle.acfg_text.specs.Terminals.{Terminal}
use Rattle.acfg_text.specs.Grammar.{HasForm, Begins, Texts}

abbrev pub is_open : Class → Bool
is_open (c.Open bracket) = true
is_open _ = false

abbrev pub is_quoted : Class → Bool
is_quoted c.Quoted = true
is_quoted _ = false

-- how many messages are open behind a token where so many were open before it
abbrev pub nest : ℕ → Class → ℕ
nest n (c.Open bracket) = n + 1
nest n (c.Close bracket) = n - 1
nest n _ = n

abbrev pub nesting : ℕ → List Terminal → ℕ
nesting n [] = n
nesting n (t ∷ ts) = nesting (nest n t.class) ts

-- the last of these tokens, if there is one, isn't quoted
abbrev pub EndsUnquoted : List Terminal → Type 0
EndsUnquoted before = (front : List Terminal) (t : Terminal) → before ≡ front ++ t ∷ [] → is_quoted t.class ≡ false

-- the first of these tokens, if there is one, isn't quoted
abbrev pub BeginsUnquoted : List Terminal → Type 0
BeginsUnquoted [] = Unit {0}
BeginsUnquoted (t ∷ ts) = is_quoted t.class ≡ false

-- The tokens of a text of this length have this fault at this place.
pub data Faulty (tokens : List Terminal) (end : ℕ) : ℕ → TextWhat → Type 0 where
  -- the tokens before one begin some form, and with it they begin none
  stray : (before : List Terminal) (t : Terminal) (after : List Terminal) → tokens ≡ before ++ t ∷ after → Begins before
      → (Begins (before ++ t ∷ []) → ⊥) → Faulty tokens end t.place Unexpected
  -- all tokens begin some form and have none
  early : Begins tokens → ((items : List Item) → HasForm tokens items → ⊥) → Faulty tokens end end Unexpected
  -- a message opens where 32 are open
  deep : (before : List Terminal) (t : Terminal) (after : List Terminal) → tokens ≡ before ++ t ∷ after
      → Begins (before ++ t ∷ []) → is_open t.class ≡ true → 32 ≤ nesting 0 before → Faulty tokens end t.place TooDeep
  -- quoted tokens, all that stand together, join to bytes that aren't UTF-8
  bad_text : (before : List Terminal) (first : Terminal) (texts : List Terminal) (after : List Terminal)
      (bytes : List ℕ) → tokens ≡ before ++ ((first ∷ texts) ++ after) → Begins (before ++ first ∷ texts)
      → EndsUnquoted before → Texts bytes (first ∷ texts) [] → BeginsUnquoted after → is_utf8 bytes ≡ false
      → Faulty tokens end first.place BadUtf8

-- a fault of the tokens with the least place
pub record IsFirst (tokens : List Terminal) (end place : ℕ) (what : TextWhat) : Type 0 where
  pub is : Faulty tokens end place what
  pub least : (p : ℕ) (w : TextWhat) → Faulty tokens end p w → place ≤ p

-- the places of tokens rise from here on, and stay below the text's length
abbrev pub Rising : ℕ → List Terminal → ℕ → Type 0
Rising from [] end = from ≤ end
Rising from (t ∷ ts) end = (from ≤ t.place) × (t.place < end) × Rising (t.place + 1) ts end

-- a fault at a place, for which this holds; nothing is said of a want of memory
abbrev pub IfAt : TextFault → (ℕ → TextWhat → Type 0) → Type 0
IfAt (At place what) P = P place what
IfAt OutOfMemory P = Unit {0}
