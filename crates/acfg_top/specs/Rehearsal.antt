-- The outcome of `rehearse SCRIPT`: the transcript from the machine without containers.
use Rattle.std.specs.Prelude.{◌≡◌, ℕ, List, [], Option, None, Some, codes}
use Rattle.std.specs.FinMap.{empty}
use Rattle.acfg_device.specs.Panel.{Files}
use Rattle.acfg_daemon.specs.Lines.{lines}
use Rattle.acfg_daemon.specs.Sources.{Loads}
use Rattle.acfg_daemon.specs.Transcript.{Transcript}
use Rattle.acfg_top.specs.Outcome.{Outcome, Refused, Done}

-- the outcome for what is at SCRIPT
abbrev pub RehearseGives : List ℕ → Files → Option (List ℕ) → Outcome → Type 0
RehearseGives script files None outcome = outcome ≡ Refused script (codes "missing")
RehearseGives script files (Some bytes) outcome =
    (text : List ℕ) × Transcript (Loads files) empty 1 (lines bytes) text × (outcome ≡ Done text [])
