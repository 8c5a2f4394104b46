-- Words of the lexer's private contracts and of proofs alone: tokens as a function of the text.
use Rattle.std.specs.Prelude.{ℕ, zero, suc, ◌+◌, ◌<◌, ◌≤◌, Bool, true, false, not, List, [], ◌∷◌, ◌++◌, Some, None}
use Rattle.std.specs.Prelude.{Result, Ok, Err, take}
use Rattle.std.specs.List.{prefix_len}
use Rattle.acfg_text.specs.declared.token.TokenKind.{TokenKind}
use Rattle.acfg_text.specs.declared.token.TokenKind.TheVariants.{Word, Number, Quoted, Symbol}
use Rattle.acfg_text.specs.declared.bytes.Lead.{Lead}
use Rattle.acfg_text.specs.declared.bytes.Lead.TheVariants.{White, Comment, Token, Nothing}
use Rattle.acfg_text.specs.declared.quoted.Within.{Within}
use Rattle.acfg_text.specs.declared.quoted.Within.TheVariants.{Close, Line, Backslash, Plain}
use Rattle.acfg_text.specs.declared.quoted.Scan.{Scan}
use Rattle.acfg_text.specs.declared.quoted.Scan.TheVariants.{Closed, Bad, Open}
use Rattle.acfg_text.specs.declared.fault.TextWhat.TheVariants.{BadByte, BadEscape, OpenString}
use Rattle.acfg_text.specs.Terminals.{Lexeme, lexeme}
use Rattle.acfg_text.specs.Escapes.{within, Escaped, escape}
use Rattle.acfg_text.specs.Lexes.{is_word, is_number, is_line_feed, lead}
use Rattle.acfg_text.specs.Machine.{Fault, fault}

-- whether no more than a backslash is left of a line
abbrev pub is_cut : List ℕ → Bool
is_cut [] = true
is_cut (b ∷ text) = is_line_feed b

abbrev pub unknown_escape : Bool → ℕ → Scan
unknown_escape true at = Open
unknown_escape false at = Bad at

abbrev pub scan_by : Within → Escaped → ℕ → List ℕ → (ℕ → Scan) → Scan
scan_by Close e at text more = Closed (at + 1)
scan_by Line e at text more = Open
scan_by Plain e at text more = more 0
scan_by Backslash (Some (n, bytes)) at text more = more n
scan_by Backslash None at text more = unknown_escape (is_cut text) at

-- Where the text behind an opening quote ends; so many bytes at its front are passed over, and so many were before it.
unfoldable pub scan : ℕ → ℕ → ℕ → List ℕ → Scan
scan quote skipped at [] = Open
scan quote (suc skipped) at (b ∷ text) = scan quote skipped (at + 1) text
scan quote zero at (b ∷ text) = scan_by (within quote b) (escape text) at text (λ n. scan quote n (at + 1) text)

-- the scan ends within so many bytes
abbrev pub IsWithin : ℕ → Scan → Type 0
IsWithin n (Closed end) = (0 < end) × (end ≤ n)
IsWithin n (Bad at) = at < n
IsWithin n Open = Unit {0}

abbrev pub quoted_len : ℕ → Scan → Result ℕ Fault
quoted_len at (Closed n) = Ok n
quoted_len at (Bad n) = Err (fault (at + 1 + n) BadEscape)
quoted_len at Open = Err (fault at OpenString)

-- how many bytes a token has behind its first
abbrev pub token_len : TokenKind → ℕ → ℕ → List ℕ → Result ℕ Fault
token_len Word b at text = Ok (prefix_len is_word text)
token_len Number b at text = Ok (prefix_len is_number text)
token_len Quoted b at text = quoted_len at (scan b 0 0 text)
token_len Symbol b at text = Ok 0

abbrev pub comment_len : List ℕ → ℕ
comment_len text = prefix_len (λ b. not (is_line_feed b)) text

abbrev pub with_front : List Lexeme → Result (List Lexeme) Fault → Result (List Lexeme) Fault
with_front front (Ok found) = Ok (front ++ found)
with_front front (Err f) = Err f

abbrev pub lex_token : TokenKind → ℕ → ℕ → List ℕ → Result ℕ Fault → (ℕ → Result (List Lexeme) Fault)
    → Result (List Lexeme) Fault
lex_token kind b at text (Ok n) more = with_front (lexeme kind at (b ∷ take n text) ∷ []) (more n)
lex_token kind b at text (Err f) more = Err f

abbrev pub lex_by : Lead → ℕ → ℕ → List ℕ → (ℕ → Result (List Lexeme) Fault) → Result (List Lexeme) Fault
lex_by White b at text more = more 0
lex_by Comment b at text more = more (comment_len text)
lex_by (Token kind) b at text more = lex_token kind b at text (token_len kind b at text) more
lex_by Nothing b at text more = Err (fault at BadByte)

-- the tokens of a text that begins at a place, or their first fault; so many bytes at its front are passed over
unfoldable pub lex : ℕ → ℕ → List ℕ → Result (List Lexeme) Fault
lex skipped at [] = Ok []
lex (suc skipped) at (b ∷ text) = lex skipped (at + 1) text
lex zero at (b ∷ text) = lex_by (lead b) b at text (λ n. lex n (at + 1) text)
