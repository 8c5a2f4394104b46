-- Values by their words.
use Rattle.std.specs.Prelude.{ℕ, Bool, true, false, List, codes}

-- `true` or `false`
abbrev pub bool_word : Bool → List ℕ
bool_word true = codes "true"
bool_word false = codes "false"
