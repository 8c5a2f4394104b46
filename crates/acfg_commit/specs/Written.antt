-- Files that are written one after another.
use Rattle.std.specs.Prelude.{◌≡◌, ℕ, List, [], ◌∷◌, Some, None, All, Contains, string_bytes}
use Rattle.std.specs.Map.{update}
use Rattle.std.specs.Str.{bytes_eq}
use Rattle.acfg_device.specs.Disk.{Disk, MayLeave}
use Rattle.acfg_device.specs.Left.{IsSyncedAt, NotMovedTo}
use Rattle.acfg_device.specs.Panel.{Files}
use Rattle.acfg_commit.specs.declared.several.NewFile.{NewFile}

-- the files with these written one after another; of two with one name the last counts
abbrev pub written : List NewFile → Files → Files
written [] first = first
written (file ∷ files) first = written files (update bytes_eq first (string_bytes file.name) (Some file.bytes.items))

-- one of the files has the name
abbrev pub IsNameAmong : List NewFile → List ℕ → Type 0
IsNameAmong files name = (file : NewFile) × Contains files file × (name ≡ string_bytes file.name)

-- no pending rename gave a file one of these names; on a settled device none is pending
abbrev pub AreFree : List NewFile → Disk → Type 0
AreFree files disk = All (λ file. NotMovedTo disk.pending (string_bytes file.name)) files

-- no byte of these files may be lost
abbrev pub AreSynced : List NewFile → Disk → Type 0
AreSynced files disk = All (λ file. IsSyncedAt disk (string_bytes file.name)) files

-- whatever a cut leaves has under each of these names what is told
abbrev pub Last : List NewFile → Files → Disk → Type 0
Last files told disk = (left : Files) (said : List ℕ) → MayLeave disk left said
    → All (λ file. left (string_bytes file.name) ≡ told (string_bytes file.name)) files

-- the file beside it gets the name, and has these bytes
abbrev pub replaced : List ℕ → List ℕ → List ℕ → Files → Files
replaced beside name bytes first = update bytes_eq (update bytes_eq first beside None) name (Some bytes)
