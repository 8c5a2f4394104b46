-- The folder of a name: POSIX.1-2017, `dirname`. The name without its last part, where slashes at the end of
-- either don't count; `.` where no slash stands before the last part, and `/` where nothing else does.
--     dev//records : dev     /usr/lib : /usr     usr : .     usr/ : .     /usr : /     // : /
use Rattle.std.specs.Prelude.{◌+◌, ◌==◌, ℕ, Bool, List, [], ◌∷◌, Contains, codes, if◌then◌else◌, nat_lt, not, take}

abbrev pub is_slash : ℕ → Bool
is_slash byte = byte == 47

abbrev pub is_other : ℕ → Bool
is_other byte = not (is_slash byte)

-- how many bytes there are up to the last one that passes, and with it
abbrev pub end_of : (ℕ → Bool) → List ℕ → ℕ
end_of passes [] = 0
end_of passes (byte ∷ bytes) =
    if nat_lt 0 (end_of passes bytes) then end_of passes bytes + 1 else if passes byte then 1 else 0

-- the bytes up to the last one that passes
abbrev pub up_to : (ℕ → Bool) → List ℕ → List ℕ
up_to passes bytes = take (end_of passes bytes) bytes

-- where nothing is left before the last part
abbrev pub root_or_current : List ℕ → List ℕ
root_or_current [] = codes "."
root_or_current (byte ∷ bytes) = if is_slash byte then codes "/" else codes "."

abbrev pub or_else : List ℕ → List ℕ → List ℕ
or_else [] other = other
or_else (byte ∷ bytes) other = byte ∷ bytes

-- without slashes at its end, without its last part, and again without slashes
abbrev pub folder : List ℕ → List ℕ
folder name = or_else (up_to is_other (up_to is_slash (up_to is_other name))) (root_or_current name)

-- folders that were noted still are
abbrev pub AllStay : List (List ℕ) → List (List ℕ) → Type 0
AllStay before after = (name : List ℕ) → Contains before name → Contains after name
