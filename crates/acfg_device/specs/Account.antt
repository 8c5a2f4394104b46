-- The account of a device: its disk now, and the moments before. What a cut now may leave, and what a cut at
-- some moment since an earlier one might have left.
use Rattle.std.specs.Prelude.{◌≡◌, ◌⊎◌, ◌≤◌, ◌++◌, ℕ, List, [], ◌∷◌, None, length}
use Rattle.acfg_device.specs.Panel.{Files, SaysPart}
use Rattle.acfg_device.specs.Disk.{Disk, KeepsSome, MayLeave}

-- a moment that has passed: the disk as it was, and the bytes that were being said
pub record Moment : Type 0 where
  pub disk : Disk
  pub saying : List ℕ

-- the disk now, and the moments before, the newest first
pub record Account : Type 0 where
  pub now : Disk
  pub past : List Moment

-- the number of this moment
abbrev pub moment : Account → ℕ
moment account = length account.past

-- A cut at that moment may have left these files and these words: while bytes are said, the first few of
-- them are.
pub record MightLeave (moment : Moment) (files : Files) (said : List ℕ) : Type 0 where
  pub under : KeepsSome moment.disk.pending moment.disk.names files
  pub words : SaysPart moment.disk.said said moment.saying

-- one of these moments, from a number on, might have left them
abbrev pub LeftAmong : List Moment → ℕ → Files → List ℕ → Type 0
LeftAmong [] since files said = ⊥
LeftAmong (newest ∷ earlier) since files said =
    ((since ≤ length earlier) × MightLeave newest files said) ⊎ LeftAmong earlier since files said

-- a cut at some moment from that number on, this one included, might have left these files and these words
abbrev pub LeftSince : Account → ℕ → Files → List ℕ → Type 0
LeftSince account since files said = MayLeave account.now files said ⊎ LeftAmong account.past since files said

-- The disk is another, and what it was is a moment that has passed, in which these bytes were being said.
abbrev pub moved_on : Account → Disk → List ℕ → Account
moved_on account disk saying = record {
  now = disk;
  past
      = record { disk = account.now; saying = saying } ∷ account.past;
}

-- a later account of the same device: its moments are those of the earlier one, and perhaps more
pub record IsLater (earlier later : Account) : Type 0 where
  pub more : List Moment
  pub past : later.past ≡ more ++ earlier.past

-- the account of a panel that tells nothing
abbrev pub untold : Account
untold = record { now = record { names = λ name. None; pending = []; said = [] }; past = [] }
