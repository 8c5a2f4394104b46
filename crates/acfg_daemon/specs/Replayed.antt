-- A script replayed on a device directory: what is said, for which state the files stand then, and what a cut of power
-- leaves at any moment.
use Rattle.std.specs.Prelude.{◌≡◌, ◌≤◌, ◌⊎◌, ⊤, ℕ, ◌+◌, List, [], ◌∷◌, ◌++◌, length, Option, IsTrue, string_bytes}
use Rattle.acfg_device.specs.Left.{SameBut}
use Rattle.acfg_device.specs.Panel.{Files, Rose}
use Rattle.acfg_device.specs.declared.panel.Panel.{Ghosts}
use Rattle.acfg_model.specs.declared.requests.Loaded.{Loaded}
use Rattle.acfg_model.specs.declared.requests.Request.{Request}
use Rattle.acfg_model.specs.State.{State}
use Rattle.acfg_daemon.specs.declared.fault.DaemonFault.{DaemonFault}
use Rattle.acfg_daemon.specs.declared.fault.DaemonFault.TheVariants.{Damaged, Device, OutOfMemory}
use Rattle.acfg_daemon.specs.Lines.{lines}
use Rattle.acfg_daemon.specs.Transcript.{Begins, LineSays, Runs}
use Rattle.acfg_store.specs.Applied.{IsBetween}
use Rattle.acfg_store.specs.Damage.{IsDamaged}
use Rattle.acfg_store.specs.Loading.{image_load}
use Rattle.acfg_store.specs.Names.{IsOfDirectory}
use Rattle.acfg_store.specs.Stands.{Stands}

-- what is loaded for a request: the set in an update's folder, and nothing for another request
abbrev pub ImageLoads : Files → Request → Option Loaded → Type 0
ImageLoads files request loaded = loaded ≡ image_load files request

-- A script was answered to its end, from the state for which the files stood: its transcript was said, and the files
-- stand for the state after it.
pub record IsReplayed (first : Files) (spoken dir script : List ℕ) (files : Files) (said : List ℕ) : Type 0 where
  pub state : State
  pub stood : Stands first dir state
  pub after : State
  pub text : List ℕ
  pub runs : Runs (ImageLoads first) state 1 (lines script) after text
  pub words : said ≡ spoken ++ text
  pub stands : Stands files dir after

-- a first part of the transcript was said
pub record HasBegun (first : Files) (spoken dir script said : List ℕ) : Type 0 where
  pub state : State
  pub stood : Stands first dir state
  pub text : List ℕ
  pub begins : Begins (ImageLoads first) state 1 (lines script) text
  pub words : said ≡ spoken ++ text

-- ---- faults

-- a fault tells the first file at fault; the others say nothing of the files
abbrev pub TellsDamage : Files → List ℕ → DaemonFault → Type 0
TellsDamage files dir (Damaged name) = IsDamaged files dir (string_bytes name)
TellsDamage files dir Device = ⊤
TellsDamage files dir OutOfMemory = ⊤

-- no damage is told
abbrev pub IsNoDamage : DaemonFault → Type 0
IsNoDamage (Damaged name) = ⊥
IsNoDamage Device = ⊤
IsNoDamage OutOfMemory = ⊤

-- what a function does to a panel at most that answers lines: files but for those that may have changed stay, and words
-- are only added
pub record OnlyAnswers {P : Type 0} (panel : Ghosts P) (changed : List ℕ → Type 0) (before after : P)
    (fails : Type 0) : Type 0 where
  pub others : SameBut changed (panel.files before) (panel.files after)
  pub words : IsTrue panel.tells → (part : List ℕ) × (panel.said after ≡ panel.said before ++ part)
  pub count : panel.faults before ≤ panel.faults after
  pub failed : fails → Rose (panel.faults before) (panel.faults after)

-- ---- what a cut leaves

-- these bytes begin the others, and aren't all of them
abbrev pub IsShort : (part whole : List ℕ) → Type 0
IsShort part whole = (byte : ℕ) × (rest : List ℕ) × (whole ≡ part ++ byte ∷ rest)

module _ (loads : Request → Option Loaded → Type 0) where
  -- A line is being answered, and its answer isn't said whole yet: the state is the one before it, or has all that is
  -- persistent of the one behind it, with each boot copy old or new.
  pub record IsAnswering (state : State) (number : ℕ) (line part : List ℕ) (left : State) : Type 0 where
    pub after : State
    pub said : List ℕ
    pub says : LineSays loads state number line after said
    pub short : IsShort part said
    pub between : IsBetween state after left

  -- between two lines, or on the way through the first of these
  abbrev pub IsOnTheWay : State → ℕ → List (List ℕ) → (part : List ℕ) → (left : State) → Type 0
  IsOnTheWay state number [] part left = (part ≡ []) × (left ≡ state)
  IsOnTheWay state number (line ∷ lines) part left =
      ((part ≡ []) × (left ≡ state)) ⊎ IsAnswering state number line part left

-- A cut leaves words and a state of the script: some lines were answered whole, each by its line said; behind their
-- state the files stand on the way through the next line at most. Files that aren't the directory's are as before.
pub record LeavesRun (first : Files) (spoken dir : List ℕ) (state : State) (all : List (List ℕ)) (files : Files)
    (said : List ℕ) : Type 0 where
  pub done : List (List ℕ)
  pub rest : List (List ℕ)
  pub split : all ≡ done ++ rest
  pub middle : State
  pub text : List ℕ
  pub runs : Runs (ImageLoads first) state 1 done middle text
  pub part : List ℕ
  pub words : said ≡ spoken ++ (text ++ part)
  pub left : State
  pub way : IsOnTheWay (ImageLoads first) middle (length done + 1) rest part left
  pub stands : Stands files dir left
  pub others : SameBut (IsOfDirectory dir) first files

-- what a cut leaves of a script from the state for which the files stood
pub record LeavesPart (first : Files) (spoken dir script : List ℕ) (files : Files) (said : List ℕ) : Type 0 where
  pub state : State
  pub stood : Stands first dir state
  pub run : LeavesRun first spoken dir state (lines script) files said

-- what a cut leaves of a replay: nothing has changed, or a part of the script is answered
abbrev pub LeavesOfReplay : (first : Files) (spoken dir script : List ℕ) (files : Files) (said : List ℕ) → Type 0
LeavesOfReplay first spoken dir script files said =
    ((files ≡ first) × (said ≡ spoken)) ⊎ LeavesPart first spoken dir script files said
