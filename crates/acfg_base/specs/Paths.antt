-- The paths of files and directories, as words and requests name them.
use Rattle.std.specs.Prelude.{ℕ, ◌<◌, ◌≤◌, List, length, All, Contains}
use Rattle.std.specs.Str.{IsUtf8}
use Rattle.acfg_base.specs.Bytes.{space}

-- 1 to 1,024 bytes of UTF-8, none of them below 0x20
pub record IsPath (text : List ℕ) : Type 0 where
  pub some : 0 < length text
  pub bound : length text ≤ 1024
  pub utf8 : IsUtf8 text
  pub printable : All (λ byte. 0x20 ≤ byte) text

-- a path as a word of a line: it holds no space
pub record IsPathInLine (text : List ℕ) : Type 0 where
  pub path : IsPath text
  pub whole : ¬ Contains text space
