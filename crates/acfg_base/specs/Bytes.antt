-- The bytes that stand between and around words, by their names.
use Rattle.std.specs.Prelude.{ℕ}

abbrev pub line_feed : ℕ
line_feed = 10

abbrev pub space : ℕ
space = 32

-- `"`, `#` and `'`
abbrev pub double_quote : ℕ
double_quote = 34

abbrev pub number_sign : ℕ
number_sign = 35

abbrev pub single_quote : ℕ
single_quote = 39

-- `+` and `,`
abbrev pub plus : ℕ
plus = 43

abbrev pub comma : ℕ
comma = 44

-- `-`, with which no word of a command begins
abbrev pub dash : ℕ
dash = 45

-- `0` and `:`
abbrev pub digit_zero : ℕ
digit_zero = 48

abbrev pub colon : ℕ
colon = 58

-- `<`, `>` and `?`
abbrev pub open_angle : ℕ
open_angle = 60

abbrev pub close_angle : ℕ
close_angle = 62

abbrev pub question_mark : ℕ
question_mark = 63

-- `[`, `\` and `]`
abbrev pub open_bracket : ℕ
open_bracket = 91

abbrev pub backslash : ℕ
backslash = 92

abbrev pub close_bracket : ℕ
close_bracket = 93

-- `{` and `}`
abbrev pub open_brace : ℕ
open_brace = 123

abbrev pub close_brace : ℕ
close_brace = 125
