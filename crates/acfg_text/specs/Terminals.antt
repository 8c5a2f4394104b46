-- Tokens, and the terminals of the grammar that they are.
use Rattle.std.specs.Prelude.{ℕ, ◌==◌, if◌then◌else◌, List, slice_index}
use Rattle.acfg_base.specs.Bytes.{close_angle, close_brace, close_bracket, colon, comma}
use Rattle.acfg_base.specs.Bytes.{open_angle, open_brace, open_bracket}
use Rattle.acfg_text.specs.declared.token.TokenKind.{TokenKind}
use Rattle.acfg_text.specs.declared.token.TokenKind.TheVariants as kinds
use Rattle.acfg_text.specs.declared.token.Token.{Token}
use Rattle.acfg_text.specs.declared.classes.Bracket.TheVariants.{Curly, Angle}
use Rattle.acfg_text.specs.declared.classes.Class.{Class}
use Rattle.acfg_text.specs.declared.classes.Class.TheVariants as classes

-- a token: its kind, the place of its first byte, and its bytes
pub record Lexeme : Type 0 where
  pub kind : TokenKind
  pub place : ℕ
  pub text : List ℕ

abbrev pub lexeme : TokenKind → ℕ → List ℕ → Lexeme
lexeme kind place text = record { kind = kind; place = place; text = text }

-- a token as the program holds it
abbrev pub lexeme_of : Token → Lexeme
lexeme_of token = lexeme token.kind token.place token.text.now

-- the terminal that a symbol's byte is; the last of the nine is `;`
unfoldable pub symbol : ℕ → Class
symbol b = if b == colon then classes.Colon
    else (if b == comma then classes.Comma
    else (if b == open_brace then classes.Open Curly
    else (if b == close_brace then classes.Close Curly
    else (if b == open_angle then classes.Open Angle
    else (if b == close_angle then classes.Close Angle
    else (if b == open_bracket then classes.OpenList
    else (if b == close_bracket then classes.CloseList
    else classes.Semicolon)))))))

abbrev pub class_of : TokenKind → List ℕ → Class
class_of kinds.Word text = classes.Word
class_of kinds.Number text = classes.Number
class_of kinds.Quoted text = classes.Quoted
class_of kinds.Symbol text = symbol (slice_index text 0)

-- a terminal of the grammar, with the token's place and bytes
pub record Terminal : Type 0 where
  pub class : Class
  pub place : ℕ
  pub text : List ℕ

abbrev pub terminal : Class → ℕ → List ℕ → Terminal
terminal class place text = record { class = class; place = place; text = text }

abbrev pub terminal_of : Lexeme → Terminal
terminal_of l = terminal (class_of l.kind l.text) l.place l.text
