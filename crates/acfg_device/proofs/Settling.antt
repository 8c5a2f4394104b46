-- Which disks are settled or ready, and that calls keep them so. Use these for what a function promises of the
-- disk behind it: `settled` after `Ok` of a function that writes, syncs and syncs the names is
--     ready_settled _ (ready_written _ name bytes (settled_ready _ settled)) refl
-- for the disk `after_sync_names (after_sync (after_write disk name bytes) name)`.
use Rattle.std.proofs.Common.{◌≡◌, inl, inr, ℕ, List, [], Option, Some, None, IfSome, refl, sym, subst}
use Rattle.std.specs.Map.{update}
use Rattle.std.specs.Option.{option_map}
use Rattle.std.specs.Str.{bytes_eq}
use Rattle.acfg_device.specs.Calls.{after_write, after_sync, after_rename, new_file, synced}
use Rattle.acfg_device.specs.Disk.{Change, Disk, File, IsSettled, IsSynced, KeepsNames, MayLeave, told}
use Rattle.acfg_device.specs.Left.{IsReady, IsSyncedAt, NotMovedTo}
use Rattle.acfg_device.specs.Panel.{Files}
use Rattle.acfg_device.proofs.AfterCalls.{all_synced_update, free_write}
use Rattle.acfg_device.proofs.Cuts.{synced_file}
use Rattle.acfg_device.proofs.Naming.{functions, same_name, update_apart, update_here}

-- ---- what a cut leaves of synced files

-- Where every file is synced, a cut that keeps the names leaves what is told.
pub kept_told : (disk : Disk) (files : Files) → ((name : List ℕ) → IsSyncedAt disk name) → KeepsNames disk.names files → files ≡ told disk
kept_told disk files all keeps = functions files (told disk) (λ name. synced_file (disk.names name) (files name) (all name) (keeps name))

-- Where no name change is pending, a cut leaves a synced file as it is told.
pub synced_lasts : (disk : Disk) (name : List ℕ) (files : Files) (said : List ℕ) → disk.pending ≡ [] → IsSyncedAt disk name → MayLeave disk files said → files name ≡ told disk name
synced_lasts disk name files said none here leaves = synced_file (disk.names name) (files name) here (keeps name)
  where
    keeps : KeepsNames disk.names files
    keeps = rw none at leaves.under

-- ---- one synced file

is_synced : (file : Option File) → IfSome (option_map synced file) (λ (g : File). IsSynced g.loose)
is_synced None = tt
is_synced (Some file) = λ place. refl

pub synced_here : (disk : Disk) (name : List ℕ) → IsSyncedAt (after_sync disk name) name
synced_here disk name = subst (λ (file : Option File). IfSome file (λ (g : File). IsSynced g.loose)) (sym (update_here disk.names name (option_map synced (disk.names name)))) (is_synced (disk.names name))

-- a sync of one file leaves another synced
pub synced_sync : (disk : Disk) (name other : List ℕ) → IsSyncedAt disk other → IsSyncedAt (after_sync disk name) other
synced_sync disk name other is = elim (same_name name other) [
  | inl same ↦ subst (λ (n : List ℕ). IsSyncedAt (after_sync disk name) n) (sym same) (synced_here disk name)
  | inr apart ↦ subst (λ (file : Option File). IfSome file (λ (g : File). IsSynced g.loose)) (sym (update_apart disk.names name (option_map synced (disk.names name)) other apart)) is
]

-- so does a file that is written and synced
pub synced_written : (disk : Disk) (name bytes other : List ℕ) → IsSyncedAt disk other → IsSyncedAt (after_sync (after_write disk name bytes) name) other
synced_written disk name bytes other is = elim (same_name name other) [
  | inl same ↦ subst (λ (n : List ℕ). IsSyncedAt (after_sync (after_write disk name bytes) name) n) (sym same) (synced_here (after_write disk name bytes) name)
  | inr apart ↦
      synced_sync (after_write disk name bytes) name other
      (subst (λ (file : Option File). IfSome file (λ (g : File). IsSynced g.loose)) (sym (update_apart disk.names name (Some (new_file bytes)) other apart)) is)
]

-- ---- disks that are settled or ready

pub settled_ready : (disk : Disk) → IsSettled disk → IsReady disk
settled_ready disk settled = record {
  synced = settled.synced;
  free = λ name. subst (λ (pending : List Change). NotMovedTo pending name) (sym settled.kept) tt;
}

pub ready_written : (disk : Disk) (name bytes : List ℕ) → IsReady disk → IsReady (after_sync (after_write disk name bytes) name)
ready_written disk name bytes ready = record {
  synced = λ other. synced_written disk name bytes other (ready.synced other);
  free = λ other. free_write disk name other (ready.free other) bytes;
}

pub synced_renamed : (disk : Disk) (from to : List ℕ) → ((name : List ℕ) → IsSyncedAt disk name) → (name : List ℕ) → IsSyncedAt (after_rename disk from to) name
synced_renamed disk from to all = all_synced_update (update bytes_eq disk.names from None) to (disk.names from) (all_synced_update disk.names from None all tt) (all from)
