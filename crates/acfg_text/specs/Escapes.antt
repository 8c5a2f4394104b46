-- What quoted texts stand for: the Protocol Buffers text format, "String literals".
use Rattle.std.specs.Prelude.{ℕ, zero, suc, ◌+◌, ◌-◌, ◌*◌, ◌==◌, if◌then◌else◌, ◌&&◌, ◌||◌, nat_lt, nat_le, Bool, List}
use Rattle.std.specs.Prelude.{[], ◌∷◌, ◌++◌, length, fold, Option, Some, None, encode_utf8}
use Rattle.acfg_base.specs.Bytes.{backslash, double_quote, line_feed, question_mark, single_quote}
use Rattle.acfg_text.specs.declared.quoted.Within.{Within}
use Rattle.acfg_text.specs.declared.quoted.Within.TheVariants.{Close, Line, Backslash, Plain}
use Rattle.acfg_text.specs.declared.quoted.Escape.{Escape}
use Rattle.acfg_text.specs.declared.quoted.Escape.TheVariants.{Byte, Octal, Hexadecimal, Scalar, Unknown}

unfoldable pub is_octal : ℕ → Bool
is_octal b = nat_le 48 b && nat_le b 55

unfoldable pub is_hexadecimal : ℕ → Bool
is_hexadecimal b = (nat_le 48 b && nat_le b 57) || ((nat_le 65 b && nat_le b 70) || (nat_le 97 b && nat_le b 102))

-- a digit's value: `0` to `9`, `A` to `F`, `a` to `f`
unfoldable pub digit_value : ℕ → ℕ
digit_value b = if nat_le b 57 then b - 48 else (if nat_le b 70 then b - 55 else b - 87)

-- the digits at the front, as many as there are, but at most so many
abbrev pub digits : (ℕ → Bool) → ℕ → List ℕ → List ℕ
digits is_digit zero text = []
digits is_digit (suc n) [] = []
digits is_digit (suc n) (b ∷ text) = if is_digit b then b ∷ digits is_digit n text else []

-- the number that digits of a base spell behind one that came before them
abbrev pub number : ℕ → ℕ → List ℕ → ℕ
number base start text = fold (λ n b. n * base + digit_value b) start text

-- the escapes, by the byte behind the backslash: `a`, `b`, `t`, `n`, `v`, `f`, `r`, `?`, the backslash, the quotes, an
-- octal digit, `x` or `X`, `u` and `U`
unfoldable pub escape_by : ℕ → Escape
escape_by b = if b == 97 then Byte 7
    else (if b == 98 then Byte 8
    else (if b == 116 then Byte 9
    else (if b == 110 then Byte 10
    else (if b == 118 then Byte 11
    else (if b == 102 then Byte 12
    else (if b == 114 then Byte 13
    else (if b == question_mark then Byte question_mark
    else (if b == backslash then Byte backslash
    else (if b == single_quote then Byte single_quote
    else (if b == double_quote then Byte double_quote
    else (if is_octal b then Octal (b - 48)
    else (if b == 120 then Hexadecimal
    else (if b == 88 then Hexadecimal
    else (if b == 117 then Scalar 4
    else (if b == 85 then Scalar 8
    else Unknown)))))))))))))))

-- what stands behind a backslash: how many bytes the escape has, and the bytes that it stands for
abbrev pub Escaped : Type 0
Escaped = Option (ℕ × List ℕ)

-- an octal digit of this value and up to two more, of a value up to 255
abbrev pub octal : ℕ → List ℕ → Escaped
octal first found =
    if nat_le (number 8 first found) 255 then Some (length found + 1, number 8 first found ∷ []) else None

-- one or two hexadecimal digits behind `x`
abbrev pub hexadecimal : List ℕ → Escaped
hexadecimal found = if length found == 0 then None else Some (length found + 1, number 16 0 found ∷ [])

-- a Unicode scalar value
unfoldable pub is_scalar : ℕ → Bool
is_scalar n = nat_lt n 0xD800 || (nat_le 0xE000 n && nat_le n 0x10FFFF)

-- so many hexadecimal digits behind `u` or `U`, which name a Unicode scalar value: its UTF-8 bytes
abbrev pub unicode : ℕ → List ℕ → Escaped
unicode n found =
    if (length found == n) && is_scalar (number 16 0 found) then Some (n + 1, encode_utf8 (number 16 0 found)) else None

abbrev pub escape_as : Escape → ℕ → List ℕ → Escaped
escape_as (Byte value) b text = Some (1, value ∷ [])
escape_as (Octal first) b text = octal first (digits is_octal 2 text)
escape_as Hexadecimal b text = hexadecimal (digits is_hexadecimal 2 text)
escape_as (Scalar n) b text = unicode n (digits is_hexadecimal n text)
escape_as Unknown b text = None

-- the escape at the front of what stands behind a backslash
unfoldable pub escape : List ℕ → Escaped
escape [] = None
escape (b ∷ text) = escape_as (escape_by b) b text

-- what a byte is between quotes of this kind
unfoldable pub within : ℕ → ℕ → Within
within quote b = if b == quote then Close
    else (if b == line_feed then Line
    else (if b == backslash then Backslash
    else Plain))

-- What the text behind an opening quote stands for, up to the quote that closes it; so many bytes at its front are an
-- escape's.
abbrev pub value_behind : ℕ → ℕ → List ℕ → List ℕ
value_behind quote skipped [] = []
value_behind quote (suc skipped) (b ∷ text) = value_behind quote skipped text
value_behind quote zero (b ∷ text) = value_by (within quote b) b (escape text) (λ n. value_behind quote n text)
  where
    value_by : Within → ℕ → Escaped → (ℕ → List ℕ) → List ℕ
    value_by Close b e more = []
    value_by Line b e more = []
    value_by Plain b e more = b ∷ more 0
    value_by Backslash b None more = []
    value_by Backslash b (Some (n, bytes)) more = bytes ++ more n

-- what a quoted token stands for
unfoldable pub spelled : List ℕ → List ℕ
spelled [] = []
spelled (quote ∷ text) = value_behind quote 0 text
