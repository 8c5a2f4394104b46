-- The line of each reply.
use Rattle.std.specs.Prelude.{ℕ, Bool, List, [], ◌∷◌, ◌++◌, Option, Some, None, codes}
use Rattle.std.specs.Fmt.{decimal}
use Rattle.hex.specs.Hex.{encode_lower}
use Rattle.acfg_base.specs.Bytes.{line_feed, space}
use Rattle.acfg_base.specs.Words.{bool_word}
use Rattle.acfg_model.specs.declared.requests.Reply.{Reply}
use Rattle.acfg_model.specs.declared.requests.Reply.TheVariants.{Fine, Updated, Unchanged, Value, Refused}
use Rattle.acfg_model.specs.Refusals.{refusal_name, IsRefusal}

-- the number of a refusal is in the table of refusals
abbrev pub IsNumbered : Reply → Type 0
IsNumbered Fine = Unit {0}
IsNumbered (Updated digest count) = Unit {0}
IsNumbered Unchanged = Unit {0}
IsNumbered (Value value) = Unit {0}
IsNumbered (Refused number) = IsRefusal number

-- a value of the boot copy, where that has the flag
abbrev pub boot_word : Option Bool → List ℕ
boot_word None = codes "none"
boot_word (Some value) = bool_word value

-- what is replied: a refusal by its number and name, an update by its digest in hexadecimal digits and its number of
-- flags
abbrev pub reply_words : Reply → List ℕ
reply_words Fine = codes "ok"
reply_words (Updated digest count) = codes "updated " ++ encode_lower digest ++ codes " " ++ decimal count
reply_words Unchanged = codes "unchanged"
reply_words (Value value) = boot_word value
reply_words (Refused number) = codes "err " ++ decimal number ++ codes " " ++ refusal_name number

-- a client's number and a space before words, and a line feed behind them
abbrev pub client_line : ℕ → List ℕ → List ℕ
client_line client words = decimal client ++ space ∷ (words ++ line_feed ∷ [])

-- the line of a reply to a client
abbrev pub reply_line : ℕ → Reply → List ℕ
reply_line client reply = client_line client (reply_words reply)
