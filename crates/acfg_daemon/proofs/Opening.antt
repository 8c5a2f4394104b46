-- A replay: the store is opened, and the script is played on it.
use Rattle.std.proofs.Common.{◌≡◌, ℕ, List, Result, Err, refl, sym, subst, inl, inr}
use Rattle.std.specs.Prelude.{IfErr}
use Rattle.acfg_device.specs.Account.{Account}
use Rattle.acfg_device.specs.Disk.{IsSettled, MayLeave, told}
use Rattle.acfg_device.specs.Left.{LeavesSince}
use Rattle.acfg_device.specs.Panel.{Files}
use Rattle.acfg_device.proofs.Moments.{weakened}
use Rattle.acfg_device.proofs.Runs.{nothing_changed}
use Rattle.acfg_daemon.specs.declared.fault.DaemonFault.{DaemonFault}
use Rattle.acfg_daemon.specs.declared.fault.DaemonFault.TheVariants.{Damaged, Device, OutOfMemory}
use Rattle.acfg_daemon.specs.Lines.{lines}
use Rattle.acfg_daemon.specs.Playing.{IsBegun, IsPlayed, fault_of_store}
use Rattle.acfg_daemon.specs.Replayed.{HasBegun, IsNoDamage, IsReplayed, LeavesOfReplay, LeavesRun, TellsDamage}
use Rattle.acfg_daemon.proofs.Answered.{open_stands}
use Rattle.acfg_store.specs.declared.store_fault.StoreFault.{StoreFault}
use Rattle.acfg_store.specs.declared.store_fault.StoreFault.TheVariants as store
use Rattle.acfg_store.specs.Applied.{IsOpen, state_in}
use Rattle.acfg_store.specs.Commits.{IsLayout}
use Rattle.acfg_store.specs.Sets.{AreSetsOfAll}
use Rattle.acfg_store.specs.Stands.{Stands}
use Rattle.acfg_store.specs.Store as stores
use Rattle.acfg_store.specs.Store.{StoreView}

-- ---- faults

pub tells_too : (files : Files) (dir : List ℕ) (fault : StoreFault) → stores.TellsDamage files dir fault → TellsDamage files dir (fault_of_store fault)
tells_too files dir (store.Damaged name) told = told
tells_too files dir store.Device told = tt
tells_too files dir store.OutOfMemory told = tt

pub none_told : (files : Files) (dir : List ℕ) (fault : DaemonFault) → IsNoDamage fault → TellsDamage files dir fault
none_told files dir (Damaged name) none = absurd none
none_told files dir Device none = tt
none_told files dir OutOfMemory none = tt

pub undamaged : {A : Type 0} (result : Result A DaemonFault) (fault : DaemonFault) → IfErr result IsNoDamage → result ≡ Err fault → IsNoDamage fault
undamaged {A} result fault none is = subst (λ (r : Result A DaemonFault). IfErr r IsNoDamage) is none

-- ---- the store that was opened

-- it is open in the files that were only synced
pub is_open : (first now : Files) (dir : List ℕ) (opened : StoreView) → opened.dir ≡ dir → now ≡ first → IsLayout first dir opened.entries → AreSetsOfAll first dir opened.entries opened.sets → IsOpen now opened
is_open first now dir opened at same lies kept = record {
  layout = subst (λ (d : List ℕ). IsLayout now d opened.entries) (sym at) (subst (λ (f : Files). IsLayout f dir opened.entries) (sym same) lies);
  kept = subst (λ (d : List ℕ). AreSetsOfAll now d opened.entries opened.sets) (sym at) (subst (λ (f : Files). AreSetsOfAll f dir opened.entries opened.sets) (sym same) kept);
}

-- an opening leaves what its start left
pub opening_leaves : (start end : Account) (first : Files) (spoken dir script : List ℕ) → first ≡ told start.now → spoken ≡ start.now.said → IsSettled start.now → LeavesSince start end (MayLeave start.now)
    → LeavesSince start end (LeavesOfReplay first spoken dir script)
opening_leaves start end first spoken dir script files said settled cut =
    weakened (LeavesOfReplay first spoken dir script) (λ left words. (left ≡ first) × (words ≡ spoken)) start end (nothing_changed first spoken files said settled cut) (λ left words was. inl was)

module _ (first now : Files) (spoken here dir script : List ℕ) (opened : StoreView) (at : opened.dir ≡ dir) (same : now ≡ first) (said : here ≡ spoken) (is : IsOpen now opened) where
  stood : Stands first dir (state_in opened)
  stood = subst (λ (d : List ℕ). Stands first d (state_in opened)) at (subst (λ (f : Files). Stands f opened.dir (state_in opened)) same (open_stands now opened is))

  pub all_played : (files : Files) (words : List ℕ) → IsPlayed now here opened script files words → IsReplayed first spoken dir script files words
  all_played files words played = record { state = state_in opened; stood = stood; after = was.after; text = was.text; runs = was.runs; words = was.words; stands = subst (λ (d : List ℕ). Stands files d was.after) at was.stands }
    where
      was : IsPlayed first spoken opened script files words
      was = subst (λ (f : Files). IsPlayed f spoken opened script files words) same (subst (λ (s : List ℕ). IsPlayed now s opened script files words) said played)

  pub some_played : (words : List ℕ) → IsBegun now here opened script words → HasBegun first spoken dir script words
  some_played words begun = record { state = state_in opened; stood = stood; text = was.text; begins = was.begins; words = was.words }
    where
      was : IsBegun first spoken opened script words
      was = subst (λ (f : Files). IsBegun f spoken opened script words) same (subst (λ (s : List ℕ). IsBegun now s opened script words) said begun)

  pub part_played : (files : Files) (words : List ℕ) → LeavesRun now here opened.dir (state_in opened) (lines script) files words → LeavesOfReplay first spoken dir script files words
  part_played files words run = inr (record { state = state_in opened; stood = stood; run = was })
    where
      was : LeavesRun first spoken dir (state_in opened) (lines script) files words
      was = subst (λ (d : List ℕ). LeavesRun first spoken d (state_in opened) (lines script) files words) at
          (subst (λ (f : Files). LeavesRun f spoken opened.dir (state_in opened) (lines script) files words) same (subst (λ (s : List ℕ). LeavesRun now s opened.dir (state_in opened) (lines script) files words) said run))

-- the script's failure of the outside was that of the store
pub device_told : (fault : StoreFault) → fault_of_store fault ≡ Device → fault ≡ store.Device
device_told (store.Damaged name) is = cc
device_told store.Device is = refl
device_told store.OutOfMemory is = cc
