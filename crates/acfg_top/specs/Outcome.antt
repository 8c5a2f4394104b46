-- The outcome of words on files, and what a run leaves of a device where it told it, failed or was refused memory.
use Rattle.std.specs.Prelude.{◌≡◌, ◌≤◌, ℕ, ◌⊎◌, ⊤, List, [], ◌∷◌, ◌++◌, map, Contains, IsTrue}
use Rattle.std.specs.Prelude.{Option, None, Some, codes}
use Rattle.std.specs.Map.{update}
use Rattle.std.specs.Str.{bytes_eq}
use Rattle.acfg_base.specs.Bytes.{line_feed}
use Rattle.acfg_device.specs.Disk.{Disk, IsSettled}
use Rattle.acfg_device.specs.Left.{SameBut}
use Rattle.acfg_device.specs.Panel.{Files, Rose, SaysPart}
use Rattle.acfg_device.specs.declared.panel.Panel.{Ghosts}
use Rattle.acfg_model.specs.State.{State}
use Rattle.acfg_store.specs.Names.{IsOfDirectory}
use Rattle.acfg_store.specs.Stands.{Stands}

-- files to be written, one after another, each with its bytes
abbrev pub Writes : Type 0
Writes = List (List ℕ × List ℕ)

pub data Outcome : Type 0 where
  -- the words are of no command
  Usage : Outcome
  -- an input, and why it is refused
  Refused : List ℕ → List ℕ → Outcome
  -- the first file at fault of a device directory that stands for no state
  Damaged : List ℕ → Outcome
  -- the text of the command, and the files that it writes
  Done : List ℕ → Writes → Outcome
  -- a device directory, the transcript of a script on it, and the state for which its files stand then
  Replayed : List ℕ → List ℕ → State → Outcome

abbrev pub status_for : Outcome → ℕ
status_for Usage = 1
status_for (Refused file what) = 2
status_for (Damaged file) = 3
status_for (Done text writes) = 0
status_for (Replayed dir text state) = 0

-- the words that are said
abbrev pub said_for : Outcome → List ℕ
said_for Usage = codes "usage: acfg COMMAND WORD.." ++ line_feed ∷ []
said_for (Refused file what) = codes "refused " ++ file ++ codes ": " ++ what ++ line_feed ∷ []
said_for (Damaged file) = codes "damaged " ++ file ++ line_feed ∷ []
said_for (Done text writes) = text
said_for (Replayed dir text state) = text

-- the files that are written before any word is said; the words and the files of a replay take turns
abbrev pub writes_of : Outcome → Option Writes
writes_of Usage = Some []
writes_of (Refused file what) = Some []
writes_of (Damaged file) = Some []
writes_of (Done text writes) = Some writes
writes_of (Replayed dir text state) = None

-- the files once these ones are written
abbrev pub written : Writes → Files → Files
written [] files = files
written (write ∷ writes) files = written writes (update bytes_eq files write.0 (Some write.1))

-- the file is one that the command writes
abbrev pub IsOutput : Outcome → List ℕ → Type 0
IsOutput Usage name = ⊥
IsOutput (Refused file what) name = ⊥
IsOutput (Damaged file) name = ⊥
IsOutput (Done text writes) name = Contains (map (λ write. write.0) writes) name
IsOutput (Replayed dir text state) name = IsOfDirectory dir name

-- What an outcome makes of the files. Those of a directory that was replayed stand for the state, and all others are as
-- before.
abbrev pub Makes : Outcome → (before after : Files) → Type 0
Makes Usage before after = after ≡ before
Makes (Refused file what) before after = after ≡ before
Makes (Damaged file) before after = after ≡ before
Makes (Done text writes) before after = after ≡ written writes before
Makes (Replayed dir text state) before after = Stands after dir state × SameBut (IsOfDirectory dir) before after

-- the names of a disk and its pending name changes stay
pub record StaysNamed (before after : Disk) : Type 0 where
  pub names : after.names ≡ before.names
  pub pending : after.pending ≡ before.pending

-- What is left of a disk, settled or not, where an input is refused or no command is asked for: its names, and its
-- pending name changes, so that none of them is synced. Damage is told of a directory that may have been synced before.
abbrev pub Spares : Outcome → (before after : Disk) → Type 0
Spares Usage before after = StaysNamed before after
Spares (Refused file what) before after = StaysNamed before after
Spares (Damaged file) before after = ⊤
Spares (Done text writes) before after = ⊤
Spares (Replayed dir text state) before after = ⊤

-- Words are said while files are written: what a cut leaves tells in which order.
abbrev pub TakesTurns : Outcome → Type 0
TakesTurns Usage = ⊥
TakesTurns (Refused file what) = ⊥
TakesTurns (Damaged file) = ⊥
TakesTurns (Done text writes) = ⊥
TakesTurns (Replayed dir text state) = ⊤

-- what a command does to a panel at most that writes files: others stay, and words are only added
pub record OnlyWrites {P : Type 0} (panel : Ghosts P) (output : List ℕ → Type 0) (before after : P)
    (fails : Type 0) : Type 0 where
  pub others : SameBut output (panel.files before) (panel.files after)
  pub words : IsTrue panel.tells → (part : List ℕ) × (panel.said after ≡ panel.said before ++ part)
  pub count : panel.faults before ≤ panel.faults after
  pub failed : fails → Rose (panel.faults before) (panel.faults after)

module _ {P : Type 0} (panel : Ghosts P) (outcome : Outcome) where
  -- All is done that an outcome asks for: its words are said, its files are written, and a settled device is settled. A
  -- refusal has synced no name.
  pub record IsDone (before after : P) : Type 0 where
    pub said : panel.said after ≡ panel.said before ++ said_for outcome
    pub files : Makes outcome (panel.files before) (panel.files after)
    pub settled : IsSettled (panel.account before).now → IsSettled (panel.account after).now
    pub spared : Spares outcome (panel.account before).now (panel.account after).now

  -- its files are written, and a settled device is settled
  pub record IsWritten (before after : P) : Type 0 where
    pub files : Makes outcome (panel.files before) (panel.files after)
    pub settled : IsSettled (panel.account before).now → IsSettled (panel.account after).now

  -- It was broken off: a first part of its words is said, no file differs but those that it writes, and no word is said
  -- before these are written, unless words and files take turns. A refusal has synced no name.
  pub record IsBroken (before after : P) : Type 0 where
    pub said : SaysPart (panel.said before) (panel.said after) (said_for outcome)
    pub files : SameBut (IsOutput outcome) (panel.files before) (panel.files after)
    pub order : (panel.said after ≡ panel.said before) ⊎ IsWritten before after ⊎ TakesTurns outcome
    pub spared : Spares outcome (panel.account before).now (panel.account after).now

  -- a run that ends with its outcome's status
  pub record Ends (status : ℕ) (before after : P) : Type 0 where
    pub is : status ≡ status_for outcome
    pub done : IsDone before after

  -- a run that fails with the outside
  pub record Fails (status : ℕ) (before after : P) : Type 0 where
    pub is : status ≡ 4
    pub rose : Rose (panel.faults before) (panel.faults after)
    pub broken : IsBroken before after

  -- a run that was refused memory
  pub record Starves (status : ℕ) (before after : P) : Type 0 where
    pub is : status ≡ 5
    pub broken : IsBroken before after

  -- what a run answers for its outcome
  abbrev pub Answers : ℕ → P → P → Type 0
  Answers status before after = Ends status before after ⊎ Fails status before after ⊎ Starves status before after

-- a run that told its outcome, one of those that are given
pub record Tells {P : Type 0} (panel : Ghosts P) (gives : Outcome → Type 0) (status : ℕ) (before after : P)
    : Type 0 where
  pub outcome : Outcome
  pub given : gives outcome
  pub ends : Ends panel outcome status before after

-- the statuses of a run
abbrev pub IsStatus : ℕ → Type 0
IsStatus status = (status ≡ 0) ⊎ (status ≡ 1) ⊎ (status ≡ 2) ⊎ (status ≡ 3) ⊎ (status ≡ 4) ⊎ (status ≡ 5)
