-- What a function does to a panel at most, in one word each: it only reads, it only says, it only changes
-- some files. Each says too that the count of faults only rises, and that it rose where the function fails.
-- `P.Panel` is the panel of a type parameter in a clause:
--     ensures reads { OnlyReads P.Panel panel.old panel.new (result ≡ Err Fault.Device) }
use Rattle.std.specs.Prelude.{◌≡◌, ◌≤◌, ◌++◌, ℕ, List, IsTrue}
use Rattle.acfg_device.specs.Left.{SameBut}
use Rattle.acfg_device.specs.Panel.{Rose}
use Rattle.acfg_device.specs.declared.panel.Panel.{Ghosts}

-- the files, the words and the account stay
pub record OnlyReads {P : Type 0} (panel : Ghosts P) (before after : P) (fails : Type 0) : Type 0 where
  pub files : panel.files after ≡ panel.files before
  pub said : panel.said after ≡ panel.said before
  pub account : panel.account after ≡ panel.account before
  pub count : panel.faults before ≤ panel.faults after
  pub failed : fails → Rose (panel.faults before) (panel.faults after)

-- The files stay, and so do the names and the pending name changes of the disk. The words are those before
-- and perhaps more.
pub record OnlySays {P : Type 0} (panel : Ghosts P) (before after : P) (fails : Type 0) : Type 0 where
  pub files : panel.files after ≡ panel.files before
  pub names : (panel.account after).now.names ≡ (panel.account before).now.names
  pub pending : (panel.account after).now.pending ≡ (panel.account before).now.pending
  pub words : IsTrue panel.tells → (part : List ℕ) × (panel.said after ≡ panel.said before ++ part)
  pub count : panel.faults before ≤ panel.faults after
  pub failed : fails → Rose (panel.faults before) (panel.faults after)

-- the words stay, and so do all files but those that may have changed
pub record OnlyChanges {P : Type 0} (panel : Ghosts P) (changed : List ℕ → Type 0) (before after : P)
    (fails : Type 0) : Type 0 where
  pub others : SameBut changed (panel.files before) (panel.files after)
  pub said : panel.said after ≡ panel.said before
  pub count : panel.faults before ≤ panel.faults after
  pub failed : fails → Rose (panel.faults before) (panel.faults after)

-- files and words stay, and what is told is on the disk to a greater part
pub record OnlySyncs {P : Type 0} (panel : Ghosts P) (before after : P) (fails : Type 0) : Type 0 where
  pub files : panel.files after ≡ panel.files before
  pub said : panel.said after ≡ panel.said before
  pub count : panel.faults before ≤ panel.faults after
  pub failed : fails → Rose (panel.faults before) (panel.faults after)
