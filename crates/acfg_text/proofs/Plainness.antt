-- Words, numbers and symbols are ASCII.
use Rattle.std.proofs.Common.{◌≡◌, ℕ, zero, suc, ◌<◌, Bool, true, false, List, [], ◌∷◌, drop, refl, sym, subst, arith}
use Rattle.std.specs.Prelude.{◌≤◌, ◌^◌, ◌&&◌, length, nat_eq, nat_le}
use Rattle.std.specs.List.{All, AllByRecursion, list_all}
use Rattle.std.specs.Str.{IsAscii}
use Rattle.std.proofs.lemmas.List.Elements.{All-from_recursion, All-head, All-drop}
use Rattle.std.proofs.lemmas.Bool.Decides.{nat_tests}
use Rattle.acfg_text.specs.declared.token.TokenKind.{TokenKind}
use Rattle.acfg_text.specs.declared.token.TokenKind.TheVariants.{Word, Number, Quoted, Symbol}
use Rattle.acfg_text.specs.Terminals.{Lexeme, class_of}
use Rattle.acfg_text.specs.TextFaults.{is_quoted}
use Rattle.acfg_text.specs.Lexes.{is_white, is_letter, is_digit, is_word, is_number, is_quote, is_symbol, lead, IsToken, Lexed, here, blank, comment, token, Lexes}
use Rattle.acfg_text.specs.Reading.{IsPlain, ArePlain}
use Rattle.acfg_text.specs.declared.bytes.Lead.TheVariants as leads

word_small : (b : ℕ) → is_word b ≡ true → b < 128
unfolding is_word is_letter is_digit
word_small b e = grind (arith, nat_tests)

number_small : (b : ℕ) → is_number b ≡ true → b < 128
unfolding is_number is_word is_letter is_digit
number_small b e = grind (arith, nat_tests)

white_small : (b : ℕ) → 128 ≤ b → is_white b ≡ false
unfolding is_white
white_small b h = grind (arith, nat_tests)

letter_small : (b : ℕ) → 128 ≤ b → is_letter b ≡ false
unfolding is_letter
letter_small b h = grind (arith, nat_tests)

digit_small : (b : ℕ) → 128 ≤ b → is_digit b ≡ false
unfolding is_digit
digit_small b h = grind (arith, nat_tests)

quote_small : (b : ℕ) → 128 ≤ b → is_quote b ≡ false
unfolding is_quote
quote_small b h = grind (arith, nat_tests)

symbol_small : (b : ℕ) → 128 ≤ b → is_symbol b ≡ false
unfolding is_symbol
symbol_small b h = grind (arith, nat_tests)

lead_large : (b : ℕ) → 128 ≤ b → lead b ≡ leads.Nothing
unfolding lead
lead_large b h =
    let hash : (nat_eq b 35) ≡ false = grind (arith, nat_tests) in
    rw (white_small b h, hash, letter_small b h, digit_small b h, quote_small b h, symbol_small b h) refl

lead_small : (b : ℕ) (kind : TokenKind) → lead b ≡ leads.Token kind → b < 128
lead_small b kind e = go (nat_le 128 b) refl
  where
    go : (q : Bool) → nat_le 128 b ≡ q → b < 128
    go true large = absurd (let never : lead b ≡ leads.Nothing = lead_large b (grind (arith, nat_tests)) in cc)
    go false small = grind (arith, nat_tests)

all_ascii : (p : ℕ → Bool) → ((b : ℕ) → p b ≡ true → b < 128) → (bytes : List ℕ) → list_all p bytes ≡ true → IsAscii bytes
all_ascii p small [] e i = omega arith
all_ascii p small (b ∷ bytes) e zero = small b (first (p b) (list_all p bytes) e)
  where
    first : (x y : Bool) → (x && y) ≡ true → x ≡ true
    first true y e = refl
    first false y e = cc
all_ascii p small (b ∷ bytes) e (suc i) = all_ascii p small bytes (second (p b) (list_all p bytes) e) i
  where
    second : (x y : Bool) → (x && y) ≡ true → y ≡ true
    second true y e = e
    second false y e = cc

behind_first : (b : ℕ) (bytes : List ℕ) → b < 128 → IsAscii bytes → IsAscii (b ∷ bytes)
behind_first b bytes small ascii zero = small
behind_first b bytes small ascii (suc i) = ascii i

token_plain : (kind : TokenKind) (bytes : List ℕ) → IsToken kind bytes → is_quoted (class_of kind bytes) ≡ false → IsAscii bytes
token_plain kind [] is unq = absurd is
token_plain Word (b ∷ bytes) (l, all) unq = behind_first b bytes (lead_small b Word l) (all_ascii is_word word_small bytes all)
token_plain Number (b ∷ bytes) (l, all) unq = behind_first b bytes (lead_small b Number l) (all_ascii is_number number_small bytes all)
token_plain Symbol (b ∷ bytes) (l, none) unq = behind_first b bytes (lead_small b Symbol l) (subst IsAscii (sym none) (λ i. omega arith))
token_plain Quoted (b ∷ bytes) (l, closes) unq = cc

lexed_plain : {at : ℕ} {text : List ℕ} {found : List Lexeme} {end : ℕ} {rest : List ℕ} → Lexed at text found end rest → AllByRecursion IsPlain found
lexed_plain here = tt
lexed_plain (blank leads lexed) = lexed_plain lexed
lexed_plain (comment body text leads ends lexed) = lexed_plain lexed
lexed_plain (token {kind = kind} bytes text is longest lexed) = (record { ascii = λ unquoted. token_plain kind bytes is unquoted }, lexed_plain lexed)

pub are_plain : (text : List ℕ) (found : List Lexeme) → Lexes text found → length found < 2 ^ 64 → ArePlain found
are_plain text found lexes few = (All-from_recursion IsPlain found (lexed_plain lexes), few)

-- a token of the list is plain
pub plain_there : (tokens : List Lexeme) (at : ℕ) (l : Lexeme) (rest : List Lexeme) → ArePlain tokens → drop at tokens ≡ l ∷ rest → IsPlain l
plain_there tokens at l rest plain is = All-head IsPlain l rest (subst (All IsPlain) is (All-drop IsPlain at tokens plain.0))
