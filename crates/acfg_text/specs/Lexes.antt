-- Tokens: the Protocol Buffers text format, "Lexical elements". A text is blanks, comments and tokens in order, none of
-- which could be longer.
use Rattle.std.specs.Prelude.{◌≡◌, ℕ, ◌+◌, ◌<◌, ◌==◌, true, false, drop, if◌then◌else◌, ◌&&◌, ◌||◌, nat_le, Bool, List}
use Rattle.std.specs.Prelude.{[], ◌∷◌, ◌++◌, length, Some, None, codes, slice_range}
use Rattle.std.specs.List.{list_any, list_all, AllByRecursion}
use Rattle.acfg_base.specs.Bytes.{double_quote, line_feed, number_sign, single_quote, space}
use Rattle.acfg_base.specs.Names.{dot, underscore}
use Rattle.acfg_text.specs.declared.token.TokenKind.{TokenKind}
use Rattle.acfg_text.specs.declared.token.TokenKind.TheVariants.{Word, Number, Quoted, Symbol}
use Rattle.acfg_text.specs.declared.bytes.Lead.{Lead}
use Rattle.acfg_text.specs.declared.bytes.Lead.TheVariants.{White, Comment, Token, Nothing}
use Rattle.acfg_text.specs.declared.quoted.Within.TheVariants.{Close, Line, Backslash, Plain}
use Rattle.acfg_text.specs.declared.fault.TextWhat.{TextWhat}
use Rattle.acfg_text.specs.declared.fault.TextWhat.TheVariants.{BadByte, BadEscape, OpenString}
use Rattle.acfg_text.specs.Terminals.{Lexeme, lexeme}
use Rattle.acfg_text.specs.Escapes.{within, escape}

-- 0x20 and 0x09 to 0x0D
unfoldable pub is_white : ℕ → Bool
is_white b = (b == space) || (nat_le 9 b && nat_le b 13)

-- `a` to `z`, `A` to `Z` and `_`
unfoldable pub is_letter : ℕ → Bool
is_letter b = (nat_le 97 b && nat_le b 122) || ((nat_le 65 b && nat_le b 90) || (b == underscore))

unfoldable pub is_digit : ℕ → Bool
is_digit b = nat_le 48 b && nat_le b 57

-- what goes on a word, and what goes on a number
unfoldable pub is_word : ℕ → Bool
is_word b = is_letter b || is_digit b

unfoldable pub is_number : ℕ → Bool
is_number b = is_word b || (b == dot)

unfoldable pub is_quote : ℕ → Bool
is_quote b = (b == double_quote) || (b == single_quote)

unfoldable pub is_symbol : ℕ → Bool
is_symbol b = list_any (λ s. s == b) (codes "{}<>[]:,;")

unfoldable pub is_line_feed : ℕ → Bool
is_line_feed b = b == line_feed

-- what a byte begins; a comment begins with `#`
unfoldable pub lead : ℕ → Lead
lead b = if is_white b then White
    else (if b == number_sign then Comment
    else (if is_letter b then Token Word
    else (if is_digit b then Token Number
    else (if is_quote b then Token Quoted
    else (if is_symbol b then Token Symbol
    else Nothing)))))

-- behind an opening quote: the text up to its closing quote, and the text that is left behind that
pub data Closes (quote : ℕ) : List ℕ → List ℕ → Type 0 where
  closed : {b : ℕ} {rest : List ℕ} → within quote b ≡ Close → Closes quote (b ∷ rest) rest
  plain_byte : {b : ℕ} {text rest : List ℕ} → within quote b ≡ Plain → Closes quote text rest
      → Closes quote (b ∷ text) rest
  escaped : {b n : ℕ} {bytes text rest : List ℕ} → within quote b ≡ Backslash → escape text ≡ Some (n, bytes)
      → Closes quote (drop n text) rest → Closes quote (b ∷ text) rest

-- what follows the first byte of a token
abbrev pub GoesOn : TokenKind → ℕ → List ℕ → Type 0
GoesOn Word b bytes = list_all is_word bytes ≡ true
GoesOn Number b bytes = list_all is_number bytes ≡ true
GoesOn Quoted b bytes = Closes b bytes []
GoesOn Symbol b bytes = bytes ≡ []

-- the bytes are a token of this kind
abbrev pub IsToken : TokenKind → List ℕ → Type 0
IsToken kind [] = ⊥
IsToken kind (b ∷ bytes) = (lead b ≡ Token kind) × GoesOn kind b bytes

-- no token is these bytes and some of those that follow
abbrev pub IsLongest : List ℕ → List ℕ → Type 0
IsLongest bytes rest =
    (kind : TokenKind) (more tail : List ℕ) → 0 < length more → rest ≡ more ++ tail → IsToken kind (bytes ++ more) → ⊥

-- the bytes of a comment behind its `#`: none is a line feed, and one follows, or the end
pub record EndsLine (body rest : List ℕ) : Type 0 where
  pub within : list_any is_line_feed body ≡ false
  pub behind : (b : ℕ) (text : List ℕ) → rest ≡ b ∷ text → is_line_feed b ≡ true

-- From a place on, where this text is left: blanks, comments and these tokens in order, up to a place and the text left
-- there.
pub data Lexed : ℕ → List ℕ → List Lexeme → ℕ → List ℕ → Type 0 where
  here : {at : ℕ} {text : List ℕ} → Lexed at text [] at text
  blank : {at end b : ℕ} {text rest : List ℕ} {found : List Lexeme} → lead b ≡ White
      → Lexed (at + 1) text found end rest → Lexed at (b ∷ text) found end rest
  comment : {at end b : ℕ} (body text : List ℕ) {rest : List ℕ} {found : List Lexeme} → lead b ≡ Comment
      → EndsLine body text → Lexed (at + 1 + length body) text found end rest
      → Lexed at (b ∷ (body ++ text)) found end rest
  token : {at end : ℕ} {kind : TokenKind} (bytes text : List ℕ) {rest : List ℕ} {found : List Lexeme}
      → IsToken kind bytes → IsLongest bytes text → Lexed (at + length bytes) text found end rest
      → Lexed at (bytes ++ text) (lexeme kind at bytes ∷ found) end rest

-- the whole text is these tokens
abbrev pub Lexes : List ℕ → List Lexeme → Type 0
Lexes text found = Lexed 0 text found (length text) []

-- no more than a backslash is left of a line
abbrev pub IsCut : List ℕ → Type 0
IsCut [] = Unit {0}
IsCut (b ∷ text) = is_line_feed b ≡ true

-- behind an opening quote a line feed or the end comes before the closing quote, and before a bad escape
pub data NeverCloses (quote : ℕ) : List ℕ → Type 0 where
  text_ends : NeverCloses quote []
  line_ends : {b : ℕ} {text : List ℕ} → within quote b ≡ Line → NeverCloses quote (b ∷ text)
  cut_off : {b : ℕ} {text : List ℕ} → within quote b ≡ Backslash → IsCut text → NeverCloses quote (b ∷ text)
  plain_then : {b : ℕ} {text : List ℕ} → within quote b ≡ Plain → NeverCloses quote text → NeverCloses quote (b ∷ text)
  escape_then : {b n : ℕ} {bytes text : List ℕ} → within quote b ≡ Backslash → escape text ≡ Some (n, bytes)
      → NeverCloses quote (drop n text) → NeverCloses quote (b ∷ text)

-- behind an opening quote and so many bytes a backslash begins no escape
pub data BadAt (quote : ℕ) : ℕ → List ℕ → Type 0 where
  bad_here : {b : ℕ} {text : List ℕ} → within quote b ≡ Backslash → escape text ≡ None → (IsCut text → ⊥)
      → BadAt quote 0 (b ∷ text)
  plain_before : {b n : ℕ} {text : List ℕ} → within quote b ≡ Plain → BadAt quote n text
      → BadAt quote (n + 1) (b ∷ text)
  escape_before : {b m n : ℕ} {bytes text : List ℕ} → within quote b ≡ Backslash → escape text ≡ Some (m, bytes)
      → BadAt quote n (drop m text) → BadAt quote (n + m + 1) (b ∷ text)

-- where this text is left no token is whole: the fault, and its place
pub data BreaksAt : ℕ → List ℕ → ℕ → TextWhat → Type 0 where
  bad_byte : {at b : ℕ} {text : List ℕ} → lead b ≡ Nothing → BreaksAt at (b ∷ text) at BadByte
  open_string : {at b : ℕ} {text : List ℕ} → lead b ≡ Token Quoted → NeverCloses b text
      → BreaksAt at (b ∷ text) at OpenString
  bad_escape : {at b n : ℕ} {text : List ℕ} → lead b ≡ Token Quoted → BadAt b n text
      → BreaksAt at (b ∷ text) (at + 1 + n) BadEscape

-- the first fault of a text's tokens: behind whole tokens none is whole
pub record LexFault (text : List ℕ) (place : ℕ) (what : TextWhat) : Type 0 where
  pub found : List Lexeme
  pub at : ℕ
  pub rest : List ℕ
  pub before : Lexed 0 text found at rest
  pub breaks : BreaksAt at rest place what

-- each token is the slice of the text at its place
abbrev pub AreSlices : List ℕ → List Lexeme → Type 0
AreSlices text found = AllByRecursion (λ l. slice_range text l.place (l.place + length l.text) ≡ l.text) found
