-- Words of the lexer's private contracts and of proofs alone: escapes as the program holds them.
use Rattle.std.specs.Prelude.{ℕ, ◌≤◌, Bool, List, [], ◌∷◌, encode_utf8}
use Rattle.acfg_text.specs.declared.quoted.Base.{Base}
use Rattle.acfg_text.specs.declared.quoted.Base.TheVariants as bases
use Rattle.acfg_text.specs.declared.quoted.Sign.{Sign}
use Rattle.acfg_text.specs.declared.quoted.Sign.TheVariants.{Byte, Char}
use Rattle.acfg_text.specs.declared.quoted.Meaning.{Meaning}
use Rattle.acfg_text.specs.declared.quoted.Escape.{Escape}
use Rattle.acfg_text.specs.declared.quoted.Escape.TheVariants.{Scalar}
use Rattle.acfg_text.specs.Escapes.{is_octal, is_hexadecimal}

abbrev pub digit_test : Base → ℕ → Bool
digit_test bases.Octal = is_octal
digit_test bases.Hexadecimal = is_hexadecimal

abbrev pub base_of : Base → ℕ
base_of bases.Octal = 8
base_of bases.Hexadecimal = 16

abbrev pub bytes_of : Sign → List ℕ
bytes_of (Byte b) = b ∷ []
bytes_of (Char c) = encode_utf8 c

abbrev pub meaning_of : Meaning → ℕ × List ℕ
meaning_of m = (m.length, bytes_of m.sign)

-- no escape has more than eight digits
abbrev pub IsFew : Escape → Type 0
IsFew (Scalar n) = n ≤ 8
IsFew _ = Unit {0}
