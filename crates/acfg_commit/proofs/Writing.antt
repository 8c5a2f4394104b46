-- The file at hand in the loop that writes files, and the files that were written before it.
use Rattle.std.proofs.Common.{◌≡◌, ◌+◌, ◌<◌, ℕ, List, [], Some, string_bytes, length, get_or, drop, take, sym, ◌∙◌, ap, subst}
use Rattle.std.proofs.lemmas.List.{drop_more}
use Rattle.std.proofs.lemmas.List.Elements.{All-more, Contains-get_or}
use Rattle.std.specs.List.{Contains}
use Rattle.std.specs.Map.{update}
use Rattle.std.specs.Str.{bytes_eq}
use Rattle.acfg_device.specs.Calls.{after_sync, after_write}
use Rattle.acfg_device.specs.Disk as disks
use Rattle.acfg_device.specs.Disk.{Disk}
use Rattle.acfg_device.specs.Left.{IsSyncedAt, NotMovedTo}
use Rattle.acfg_device.specs.Panel.{Files}
use Rattle.acfg_device.proofs.AfterCalls.{free_write}
use Rattle.acfg_device.proofs.Settling.{synced_here, synced_lasts, synced_written}
use Rattle.acfg_commit.specs.Written.{AreFree, AreSynced, IsNameAmong, Last, written}
use Rattle.acfg_commit.specs.declared.several.NewFile.{NewFile}

module _ (files : List NewFile) (index : ℕ) (item : NewFile) (name bytes : List ℕ) (low : index < length files) (is : item ≡ get_or files index item) (named : name ≡ string_bytes item.name)
    (held : bytes ≡ item.bytes.items) where
  pub among : IsNameAmong files name
  among = (item, subst (Contains files) (sym is) (Contains-get_or files index item low), named)

  pub free_at : (start now : Disk) → AreFree files start → ((other : List ℕ) → NotMovedTo start.pending other → NotMovedTo now.pending other) → NotMovedTo now.pending name
  free_at start now free stay =
      stay name (subst (NotMovedTo start.pending) (sym (named ∙ ap (λ (file : NewFile). string_bytes file.name) is)) (free index item low))

  -- the files that are left to be written, with this one done
  pub one_written : (now : Files) → written (drop index files) now ≡ written (drop (index + 1) files) (update bytes_eq now name (Some bytes))
  one_written now =
      ap (λ (rest : List NewFile). written rest now) (drop_more files index item low)
      ∙ sym (ap (λ (file : NewFile). written (drop (index + 1) files) (update bytes_eq now (string_bytes file.name) (Some file.bytes.items))) is)
      ∙ sym (ap (λ (n : List ℕ). written (drop (index + 1) files) (update bytes_eq now n (Some bytes))) named
      ∙ ap (λ (b : List ℕ). written (drop (index + 1) files) (update bytes_eq now (string_bytes item.name) (Some b))) held)

  pub one_synced : (now later : Disk) → later ≡ after_sync (after_write now name bytes) name → AreSynced (take index files) now → AreSynced (take (index + 1) files) later
  one_synced now later then all = subst (λ (disk : Disk). AreSynced (take (index + 1) files) disk) (sym then)
      (All-more (λ (file : NewFile). IsSyncedAt (after_sync (after_write now name bytes) name) (string_bytes file.name)) files index item low
      (λ k d below. synced_written now name bytes _ (all k d below))
      (subst (IsSyncedAt (after_sync (after_write now name bytes) name)) (named ∙ ap (λ (file : NewFile). string_bytes file.name) is) (synced_here (after_write now name bytes) name)))

-- a written file moves no other
pub free_later : (start now later : Disk) (name bytes : List ℕ) → later ≡ after_sync (after_write now name bytes) name → ((other : List ℕ) → NotMovedTo start.pending other → NotMovedTo now.pending other)
    → (other : List ℕ) → NotMovedTo start.pending other → NotMovedTo later.pending other
free_later start now later name bytes then stay other free = subst (λ (disk : Disk). NotMovedTo disk.pending other) (sym then) (free_write now name other (stay other free) bytes)

-- where no name change is pending, synced files last
pub synced_last : (files : List NewFile) (told : Files) (disk : Disk) → told ≡ disks.told disk → disk.pending ≡ [] → AreSynced files disk → Last files told disk
synced_last files told disk is none all left said leaves k d below = synced_lasts disk (string_bytes (get_or files k d).name) left said none (all k d below) leaves ∙ sym (ap (λ (f : Files). f (string_bytes (get_or files k d).name)) is)
