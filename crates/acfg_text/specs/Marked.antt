-- Words of the reader's private contracts and of proofs alone: tokens as their marks and their source give them.
use Rattle.std.specs.Prelude.{ℕ, ◌-◌, List, [], ◌∷◌, take, drop}
use Rattle.acfg_text.specs.declared.token.TokenKind.{TokenKind}
use Rattle.acfg_text.specs.declared.token.TokenKind.TheVariants.{Symbol}
use Rattle.acfg_text.specs.declared.bytes.Lead.{Lead}
use Rattle.acfg_text.specs.declared.bytes.Lead.TheVariants.{Token}
use Rattle.acfg_text.specs.Lexes.{lead}
use Rattle.acfg_text.specs.declared.marks.Short.{Short}
use Rattle.acfg_text.specs.declared.marks.Long.{Long}
use Rattle.acfg_text.specs.Terminals.{Lexeme, lexeme}

-- the kind of a token that begins so
abbrev pub kind_led : Lead → TokenKind
kind_led (Token kind) = kind
kind_led _ = Symbol

-- the kind of a token of this text, and a symbol where it has none
abbrev pub begun_kind : List ℕ → TokenKind
begun_kind [] = Symbol
begun_kind (b ∷ text) = kind_led (lead b)

-- the token between two places
abbrev pub marked : List ℕ → ℕ × ℕ → Lexeme
marked source mark =
    let text = take (mark.1 - mark.0) (drop mark.0 source) in
    lexeme (begun_kind text) mark.0 text

abbrev pub short_pair : Short → ℕ × ℕ
short_pair short = (short.start, short.end)

abbrev pub long_pair : Long → ℕ × ℕ
long_pair long = (long.start, long.end)
