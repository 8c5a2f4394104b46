-- What a cut leaves while words are said.
use Rattle.std.specs.Prelude.{ℕ, List}
use Rattle.acfg_device.specs.Disk.{Disk, MayLeave}
use Rattle.acfg_device.specs.Panel.{Files, SaysPart}

-- the files of a cut at the start, and its words with the first few of these bytes
pub record LeavesWords (start : Disk) (text : List ℕ) (files : Files) (said : List ℕ) : Type 0 where
  pub may : MayLeave start files start.said
  pub part : SaysPart start.said said text
