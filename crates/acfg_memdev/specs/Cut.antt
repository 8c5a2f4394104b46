-- What a cut leaves, where it is said how many name changes it keeps and what the bytes are that
-- were not synced.
use Rattle.std.specs.Prelude.{◌≡◌, ◌+◌, ℕ, List, [], ◌∷◌, Option, Some, None, if◌then◌else◌, length, nat_lt, replicate}
use Rattle.std.specs.Option.{option_map}
use Rattle.acfg_device.specs.Disk.{Loose, Within, Replaced, File, Names, Change, Disk, in_ranges, undone}
use Rattle.acfg_device.specs.Panel.{Files}
use Rattle.acfg_memdev.specs.History.{History, disk_after, files_of, said_of}

-- the names where the first so many of the pending name changes are kept; the newest stands first
abbrev pub kept : ℕ → List Change → Names → Names
kept count [] names = names
kept count (newest ∷ older) names = if nat_lt (length older) count then names else kept count older
    (undone newest names)

-- the bytes from this place on, with the fill in the ranges
abbrev pub filled_from : List (ℕ × ℕ) → ℕ → ℕ → List ℕ → List ℕ
filled_from ranges fill place [] = []
filled_from ranges fill place (byte ∷ bytes)
    = (if in_ranges ranges place then fill else byte) ∷ filled_from ranges fill (place + 1) bytes

-- the bytes with the fill in the place of each that is not synced
abbrev pub filled_with : Loose → ℕ → List ℕ → List ℕ
filled_with (Within ranges) fill bytes = filled_from ranges fill 0 bytes
filled_with Replaced fill bytes = replicate (length bytes) fill

-- the bytes as they were written, or filled
abbrev pub filled : Option ℕ → File → List ℕ
filled None file = file.bytes
filled (Some fill) file = filled_with file.loose fill file.bytes

abbrev pub cut_files : Disk → ℕ → Option ℕ → Files
cut_files disk count fill = λ name. option_map (filled fill) (kept count disk.pending disk.names name)

-- A settled device with the files and the words that the cut leaves. It has made no call, and none is to fail.
pub record IsCut (device : History) (calls count : ℕ) (fill : Option ℕ) (left : History) : Type 0 where
  pub files : files_of left ≡ cut_files (disk_after device calls) count fill
  pub said : said_of left ≡ (disk_after device calls).said
  pub log : left.log ≡ []
  pub made : left.calls ≡ 0
  pub fails : left.fails ≡ []
  pub starved : left.starved ≡ 0
