-- The outcome of `replay SCRIPT DIR`: the transcript from the state for which the directory's files stand. And what a
-- cut of power leaves of it at any moment.
use Rattle.std.specs.Prelude.{◌≡◌, ◌⊎◌, ℕ, List, Option, None, Some, codes}
use Rattle.acfg_device.specs.Panel.{Files, SaysPart}
use Rattle.acfg_daemon.specs.Lines.{lines}
use Rattle.acfg_daemon.specs.Replayed.{ImageLoads, LeavesPart}
use Rattle.acfg_daemon.specs.Transcript.{Runs}
use Rattle.acfg_model.specs.State.{State}
use Rattle.acfg_store.specs.Damage.{IsDamaged}
use Rattle.acfg_store.specs.Stands.{Stands}
use Rattle.acfg_top.specs.Outcome.{Outcome, Refused, Damaged, Replayed, TakesTurns, said_for}

-- The outcome for what is at SCRIPT. Where the files of DIR stand for no state, it is their first file at fault. Else
-- the lines of the script lead from the state for which they stand to another one, by one transcript.
abbrev pub ReplayGives : (script dir : List ℕ) → Files → Option (List ℕ) → Outcome → Type 0
ReplayGives script dir files None outcome = outcome ≡ Refused script (codes "missing")
ReplayGives script dir files (Some bytes) outcome =
    ((file : List ℕ) × IsDamaged files dir file × (outcome ≡ Damaged file))
    ⊎ ((state after : State) × (text : List ℕ) × Stands files dir state
    × Runs (ImageLoads files) state 1 (lines bytes) after text × (outcome ≡ Replayed dir text after))

-- ---- what a cut leaves

module _ (script dir : List ℕ) (first : Files) (spoken : List ℕ) (files : Files) (said : List ℕ) where
  -- no file has changed, and a first part of the line was said that tells a missing script or damage
  pub record LeavesRefusal : Type 0 where
    pub outcome : Outcome
    pub given : ReplayGives script dir first (first script) outcome
    pub refuses : TakesTurns outcome → ⊥
    pub same : files ≡ first
    pub words : SaysPart spoken said (said_for outcome)

  -- The directory stood for a state. Some lines of the script were answered, and the files stand for the state behind
  -- them or are on the way through the next line; no answer is said whole before its state stands.
  pub record LeavesAnswers : Type 0 where
    pub bytes : List ℕ
    pub there : first script ≡ Some bytes
    pub part : LeavesPart first spoken dir bytes files said

  -- nothing has changed yet, or one of both
  abbrev pub LeavesOfCommand : Type 0
  LeavesOfCommand = ((files ≡ first) × (said ≡ spoken)) ⊎ LeavesRefusal ⊎ LeavesAnswers
