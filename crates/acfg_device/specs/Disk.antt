-- The disk as a power cut sees it: names that name files, bytes that are not synced yet, name changes that
-- are pending, and the words said. What a cut leaves of it.
use Rattle.std.specs.Prelude.{◌≡◌, ◌⊎◌, ◌+◌, ◌&&◌, ⊤, ℕ, Bool, false, List, [], ◌∷◌, length, slice_index, Option}
use Rattle.std.specs.Prelude.{Some, None, IfSome, IsSomeAnd, nat_le, nat_lt}
use Rattle.std.specs.List.{list_any}
use Rattle.std.specs.Map.{update}
use Rattle.std.specs.Option.{option_map}
use Rattle.std.specs.Str.{bytes_eq}
use Rattle.acfg_device.specs.Panel.{Files}

-- What of a file's bytes is not synced: those in these ranges, each of them a place and a length, or,
-- since the file was made or replaced, all of them and how many they are.
pub data Loose : Type 0 where
  Within : List (ℕ × ℕ) → Loose
  Replaced : Loose

-- a file: its bytes, and what of them is not synced
pub record File : Type 0 where
  pub bytes : List ℕ
  pub loose : Loose

-- the file that each name names
abbrev pub Names : Type 0
Names = List ℕ → Option File

-- A name change, with what is needed to undo it: a file was made under a name; a file was moved from a name
-- to another, whose file, if it had one, was lost; a name was removed from its file.
pub data Change : Type 0 where
  Made : List ℕ → Change
  Moved : List ℕ → List ℕ → Option File → Change
  Removed : List ℕ → File → Change

-- the names, the name changes since they were last synced, the newest first, and the words said
pub record Disk : Type 0 where
  pub names : Names
  pub pending : List Change
  pub said : List ℕ

-- what is read under each name
abbrev pub told : Disk → Files
told disk = λ name. option_map (λ file. file.bytes) (disk.names name)

-- the names before the newest change; a file that was moved goes back with the bytes that it has now
abbrev pub undone : Change → Names → Names
undone (Made name) names = update bytes_eq names name None
undone (Moved from to lost) names = update bytes_eq (update bytes_eq names from (names to)) to lost
undone (Removed name file) names = update bytes_eq names name (Some file)

-- some range has the place
abbrev pub in_ranges : List (ℕ × ℕ) → ℕ → Bool
in_ranges ranges place = list_any (λ (range : ℕ × ℕ). nat_le range.0 place && nat_lt place (range.0 + range.1)) ranges

-- as many bytes, and the same ones outside the ranges
pub record SameOutside (ranges : List (ℕ × ℕ)) (bytes left : List ℕ) : Type 0 where
  pub length : length left ≡ length bytes
  pub outside : (place : ℕ) → in_ranges ranges place ≡ false → slice_index left place ≡ slice_index bytes place

-- A cut may leave these bytes of a file: any in the ranges that are not synced, and any of any number where
-- the file was replaced.
abbrev pub MayHold : Loose → List ℕ → List ℕ → Type 0
MayHold (Within ranges) bytes left = SameOutside ranges bytes left
MayHold Replaced bytes left = ⊤

-- a cut may leave this under a name: nothing where there is no file, and else bytes of the file
abbrev pub MayStand : Option File → Option (List ℕ) → Type 0
MayStand None left = left ≡ None
MayStand (Some file) left = IsSomeAnd left (MayHold file.loose file.bytes)

-- a cut may leave these files where it undoes none of the name changes
abbrev pub KeepsNames : Names → Files → Type 0
KeepsNames names files = (name : List ℕ) → MayStand (names name) (files name)

-- A cut keeps all of the name changes, or it undoes the newest and then does the same again.
abbrev pub KeepsSome : List Change → Names → Files → Type 0
KeepsSome [] names files = KeepsNames names files
KeepsSome (newest ∷ older) names files = KeepsNames names files ⊎ KeepsSome older (undone newest names) files

-- A cut at this moment may leave these files and these words.
pub record MayLeave (disk : Disk) (files : Files) (said : List ℕ) : Type 0 where
  pub under : KeepsSome disk.pending disk.names files
  pub words : said ≡ disk.said

-- no byte of the file may be lost
abbrev pub IsSynced : Loose → Type 0
IsSynced (Within ranges) = (place : ℕ) → in_ranges ranges place ≡ false
IsSynced Replaced = ⊥

-- nothing is unsynced, and no name change is pending
pub record IsSettled (disk : Disk) : Type 0 where
  pub kept : disk.pending ≡ []
  pub synced : (name : List ℕ) → IfSome (disk.names name) (λ file. IsSynced file.loose)
