-- Words for what a run of calls may leave: the files of a cut at its start, but for some names; either the
-- files from before or those from after, whole.
use Rattle.std.specs.Prelude.{◌≡◌, ◌≢◌, ◌⊎◌, ⊤, ℕ, List, [], ◌∷◌, None, IfSome, IsSomeAnd}
use Rattle.acfg_device.specs.Account.{Account, IsLater, LeftSince, moment}
use Rattle.acfg_device.specs.Disk.{Change, Made, Moved, Removed, Disk, File, IsSynced, MayLeave, SameOutside}
use Rattle.acfg_device.specs.Panel.{Files, SaysPart}

-- Later in the life of a device: whatever a cut at some moment since might have left has a property.
pub record LeavesSince (start end : Account) (P : Files → List ℕ → Type 0) : Type 0 where
  pub later : IsLater start end
  pub each : (files : Files) (said : List ℕ) → LeftSince end (moment start) files said → P files said

-- the same files but for the names that may have changed
abbrev pub SameBut : (List ℕ → Type 0) → Files → Files → Type 0
SameBut changed before after = (name : List ℕ) → (changed name → ⊥) → after name ≡ before name

-- what a cut of this disk may leave, but for the names that may have changed
pub record LeftBut (disk : Disk) (changed : List ℕ → Type 0) (files : Files) (said : List ℕ) : Type 0 where
  pub before : Files
  pub may : MayLeave disk before said
  pub same : SameBut changed before files

-- Calls since the start changed what a cut leaves in these names alone.
abbrev pub LeavesBut : (List ℕ → Type 0) → Account → Account → Type 0
LeavesBut changed start end = LeavesSince start end (LeftBut start.now changed)

-- what a cut of this disk may leave, but for the names that may have changed; or exactly the new files
abbrev pub LeftOrNew : Disk → (List ℕ → Type 0) → Files → Files → List ℕ → Type 0
LeftOrNew disk changed new files said = LeftBut disk changed files said ⊎ ((files ≡ new) × (said ≡ disk.said))

-- Either the files from before, but for the names that may have changed, or exactly the new ones; and no word
-- more or less than before.
pub record IsEither (first : Files) (spoken : List ℕ) (changed : List ℕ → Type 0) (new files : Files)
    (said : List ℕ) : Type 0 where
  pub left : SameBut changed first files ⊎ (files ≡ new)
  pub words : said ≡ spoken

-- the same files, and the words with the first few of these bytes
pub record SaysOnly (first : Files) (spoken bytes : List ℕ) (files : Files) (said : List ℕ) : Type 0 where
  pub left : files ≡ first
  pub words : SaysPart spoken said bytes

-- The same files but for one, which has as many bytes as before and the same outside of a range; and no word
-- more or less than before.
pub record ChangesRange (first : Files) (spoken name : List ℕ) (at size : ℕ) (files : Files)
    (said : List ℕ) : Type 0 where
  pub others : SameBut (λ other. other ≡ name) first files
  pub range : IsSomeAnd (first name) (λ held. IsSomeAnd (files name) (SameOutside ((at, size) ∷ []) held))
  pub words : said ≡ spoken

-- No pending rename gave a file this name, so that a cut moves no file away from it.
abbrev pub NotMovedTo : List Change → List ℕ → Type 0
NotMovedTo [] name = ⊤
NotMovedTo (Made made ∷ older) name = NotMovedTo older name
NotMovedTo (Moved from to lost ∷ older) name = (to ≢ name) × NotMovedTo older name
NotMovedTo (Removed removed file ∷ older) name = NotMovedTo older name

-- A write under this name changes the cuts in this name alone: there is no file under it, or none was moved
-- to it, that a cut could move back under its old name.
abbrev pub ChangesAlone : Disk → List ℕ → Type 0
ChangesAlone disk name = (disk.names name ≡ None) ⊎ NotMovedTo disk.pending name

-- where there is a file under the name, no byte of it may be lost
abbrev pub IsSyncedAt : Disk → List ℕ → Type 0
IsSyncedAt disk name = IfSome (disk.names name) (λ (file : File). IsSynced file.loose)

-- Each file is synced, and no pending rename gave a file its name: so it is at a start that is settled, and
-- after files were written and synced from there.
pub record IsReady (disk : Disk) : Type 0 where
  pub synced : (name : List ℕ) → IsSyncedAt disk name
  pub free : (name : List ℕ) → NotMovedTo disk.pending name
