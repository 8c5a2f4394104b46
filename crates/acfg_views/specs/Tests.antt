-- Tests of names, byte by byte, by which a reader goes on or stops. `lawful_names` says that they are the names of
-- `acfg_base`.
use Rattle.std.specs.Prelude.{ℕ, List, [], ◌∷◌, length, Bool, nat_le, ◌==◌, ◌&&◌, ◌||◌, not}
use Rattle.std.specs.List.{list_any}

abbrev pub is_letter : ℕ → Bool
is_letter byte = nat_le 97 byte && nat_le byte 122

abbrev pub is_digit : ℕ → Bool
is_digit byte = nat_le 48 byte && nat_le byte 57

abbrev pub is_dot : ℕ → Bool
is_dot byte = byte == 46

abbrev pub is_underscore : ℕ → Bool
is_underscore byte = byte == 95

-- whether a byte of names may stand behind another one
abbrev pub may_follow : ℕ → ℕ → Bool
may_follow previous byte =
    is_letter byte
    || ((is_digit byte || is_dot byte) && not (is_dot previous))
    || (is_underscore byte && not (is_dot previous) && not (is_underscore previous))

-- whether names, joined by dots, go on with this text behind a byte
abbrev pub names_go_on : ℕ → List ℕ → Bool
names_go_on previous [] = not (is_dot previous)
names_go_on previous (byte ∷ bytes) = may_follow previous byte && names_go_on byte bytes

-- whether a text is names joined by dots: it begins as behind a dot
abbrev pub are_names : List ℕ → Bool
are_names text = names_go_on 46 text

unfoldable pub is_container : List ℕ → Bool
is_container text = nat_le (length text) 100 && are_names text

unfoldable pub is_package : List ℕ → Bool
is_package text = nat_le (length text) 255 && are_names text && list_any is_dot text

unfoldable pub is_name : List ℕ → Bool
is_name text = nat_le (length text) 255 && are_names text && not (list_any is_dot text)
