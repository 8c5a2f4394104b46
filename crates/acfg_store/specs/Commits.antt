-- How a directory goes from one state to another, and what a cut of power on the way leaves.
use Rattle.std.specs.Prelude.{◌≡◌, ◌⊎◌, ℕ, List, map, Contains}
use Rattle.acfg_device.specs.Left.{SameBut}
use Rattle.acfg_device.specs.Panel.{Files}
use Rattle.acfg_model.specs.State.{IsValid, State}
use Rattle.acfg_store.specs.declared.names.Part.{Part}
use Rattle.acfg_store.specs.Names.{IsOfDirectory, path}
use Rattle.acfg_store.specs.Records.{AreRecords}
use Rattle.acfg_store.specs.Stands.{AreListed, Entry, Holds, IsUsed, Lies, Stands, Uses, recorded, state_of}

-- The containers lie in the directory and make a valid state.
pub record IsLayout (files : Files) (dir : List ℕ) (entries : List Entry) : Type 0 where
  pub lies : Lies files dir entries
  pub valid : IsValid (state_of entries)

-- A commit goes from one layout to another: files under names of the directory that it doesn't use are written, and
-- then the new files stand at once. Files that aren't the directory's stay.
pub record IsCommit (dir : List ℕ) (entries later : List Entry) (spare : List ℕ → Type 0) (first new : Files)
    : Type 0 where
  pub before : IsLayout first dir entries
  pub after : IsLayout new dir later
  pub free : (name : List ℕ) → spare name → IsUsed dir entries name → ⊥
  pub own : (name : List ℕ) → spare name → IsOfDirectory dir name
  pub others : SameBut (IsOfDirectory dir) first new

-- Files that stand for one of some states, while all that aren't the directory's are as before; and no word more or
-- less than before.
pub record LeavesState (first : Files) (spoken dir : List ℕ) (OneOf : State → Type 0) (files : Files)
    (said : List ℕ) : Type 0 where
  pub words : said ≡ spoken
  pub state : State
  pub is_one : OneOf state
  pub stands : Stands files dir state
  pub others : SameBut (IsOfDirectory dir) first files

-- the state before a commit, or the one behind it
abbrev pub IsEitherState : (entries later : List Entry) → State → Type 0
IsEitherState entries later state = (state ≡ state_of entries) ⊎ (state ≡ state_of later)

-- the used files of a container are as they were
abbrev pub IsKept : (dir : List ℕ) → Entry → (first new : Files) → Type 0
IsKept dir entry first new =
    (part : Part) → Uses entry part → new (path dir entry.name part) ≡ first (path dir entry.name part)

-- One container changes: the list has what it has now, the new files hold it, and each other container was there and is
-- kept.
pub record ChangesOne (dir : List ℕ) (entries later : List Entry) (entry : Entry) (first new : Files) : Type 0 where
  pub listed : AreListed new dir later
  pub lawful : AreRecords (map recorded later)
  pub holds : Holds new dir entry
  pub rest : (other : Entry) → Contains later other
      → (other ≡ entry) ⊎ (Contains entries other × IsKept dir other first new)
