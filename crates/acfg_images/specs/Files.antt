-- The four files of a set.
use Rattle.std.specs.Prelude.{ℕ, ◌+◌, List, ◌++◌, length}

-- the bytes of the four files
pub record Files : Type 0 where
  pub package_map : List ℕ
  pub flag_map : List ℕ
  pub flag_val : List ℕ
  pub flag_info : List ℕ

abbrev pub bytes_in_all : Files → ℕ
bytes_in_all files = length files.package_map + length files.flag_map + length files.flag_val + length files.flag_info

-- the bytes of the four files, one file after another
abbrev pub joined : Files → List ℕ
joined files = files.package_map ++ files.flag_map ++ files.flag_val ++ files.flag_info
