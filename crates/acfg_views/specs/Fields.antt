-- The fields of AOSP's aconfig_storage_file: numbers, the lowest byte first, and strings.
use Rattle.std.specs.Prelude.{ℕ, zero, suc, ◌<◌, List, [], ◌∷◌, ◌++◌, length, drop, slice_index}
use Rattle.byteorder.specs.Endian.{little_bytes, little_number}

-- a number in so many bytes
unfoldable pub number : ℕ → ℕ → List ℕ
number width n = little_bytes width n

-- the number that the first so many bytes read as
unfoldable pub number_of : ℕ → List ℕ → ℕ
number_of width bytes = little_number width bytes

-- the length of a text in four bytes, and the text
unfoldable pub string : List ℕ → List ℕ
string text = number 4 (length text) ++ text

-- a list of bytes
abbrev pub IsBytes : List ℕ → Type 0
IsBytes bytes = (i : ℕ) → slice_index bytes i < 256

-- so many numbers of four bytes, from the front
abbrev pub numbers : ℕ → List ℕ → List ℕ
numbers zero bytes = []
numbers (suc k) bytes = number_of 4 bytes ∷ numbers k (drop 4 bytes)
