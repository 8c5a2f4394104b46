-- What a cut leaves at each step of the replacement of a file, whose new bytes are written and synced beside it.
use Rattle.std.proofs.Common.{◌≡◌, ◌≢◌, inl, inr, ⊎_elim, ℕ, List, [], Option, Some, None, refl, sym, ◌∙◌, ap, subst}
use Rattle.std.specs.Map.{update}
use Rattle.std.specs.Str.{bytes_eq}
use Rattle.acfg_device.specs.Account.{Account, moved_on}
use Rattle.acfg_device.specs.Calls.{after_write, after_sync, after_rename, after_sync_names}
use Rattle.acfg_device.specs.Disk.{Disk, IsSettled, told}
use Rattle.acfg_device.specs.Left.{IsReady, IsSyncedAt, LeavesBut, LeavesSince, LeftBut, LeftOrNew}
use Rattle.acfg_device.specs.Panel.{Files}
use Rattle.acfg_device.proofs.AfterCalls.{rename_leaves}
use Rattle.acfg_device.proofs.Carried.{now_since}
use Rattle.acfg_device.proofs.Cuts.{keeps_all}
use Rattle.acfg_device.proofs.Moments.{goes_on, weakened}
use Rattle.acfg_device.proofs.Naming.{update_here, update_twice}
use Rattle.acfg_device.proofs.Read.{told_rename, told_sync, told_write}
use Rattle.acfg_device.proofs.Settling.{kept_told, ready_written, synced_renamed}
use Rattle.acfg_commit.specs.Written.{replaced}

-- the file beside, written and then renamed, as one change of the files
pub renamed_files : (first : Files) (beside name bytes : List ℕ)
    → update bytes_eq (update bytes_eq (update bytes_eq first beside (Some bytes)) beside None) name (update bytes_eq first beside (Some bytes) beside) ≡ replaced beside name bytes first
renamed_files first beside name bytes =
    ap (λ (files : Files). update bytes_eq files name (update bytes_eq first beside (Some bytes) beside)) (update_twice first beside (Some bytes) None)
    ∙ ap (λ (value : Option (List ℕ)). update bytes_eq (update bytes_eq first beside None) name value) (update_here first beside (Some bytes))

-- the bytes that were written are told
pub told_two : (start : Disk) (first : Files) (beside bytes : List ℕ) → first ≡ told start → told (after_sync (after_write start beside bytes) beside) ≡ update bytes_eq first beside (Some bytes)
told_two start first beside bytes is = told_sync (after_write start beside bytes) beside ∙ told_write start beside bytes ∙ ap (λ (files : Files). update bytes_eq files beside (Some bytes)) (sym is)

module _ (start two : Account) (beside name bytes : List ℕ) (first : Files) (is_first : first ≡ told start.now) (apart : beside ≢ name) (ready : IsReady start.now)
    (cut : LeavesBut (λ (other : List ℕ). other ≡ beside) start two) (disk : two.now ≡ after_sync (after_write start.now beside bytes) beside) where
  abbrev P : Files → List ℕ → Type 0
  P = LeftOrNew start.now (λ (other : List ℕ). other ≡ beside) (replaced beside name bytes first)

  pub written : LeavesSince start two P
  written = weakened P (LeftBut start.now (λ (other : List ℕ). other ≡ beside)) start two cut (λ files said left. inl left)

  all_two : (other : List ℕ) → IsSyncedAt two.now other
  all_two other = subst (λ (d : Disk). IsSyncedAt d other) (sym disk) ((ready_written start.now beside bytes ready).synced other)

  pub all_three : (other : List ℕ) → IsSyncedAt (after_rename two.now beside name) other
  all_three = synced_renamed two.now beside name all_two

  told_three : told (after_rename two.now beside name) ≡ replaced beside name bytes first
  told_three =
      let was : told two.now ≡ update bytes_eq first beside (Some bytes) = ap told disk ∙ told_two start.now first beside bytes is_first in
      told_rename two.now beside name
      ∙ ap (λ (files : Files). update bytes_eq (update bytes_eq files beside None) name (files beside)) was
      ∙ renamed_files first beside name bytes

  module _ (three : Account) (is_three : three ≡ moved_on two (after_rename two.now beside name) []) where
    pub renamed : LeavesSince start three P
    renamed = goes_on P start two three (after_rename two.now beside name) written is_three (λ files said leaves. ⊎_elim
        (λ kept. inr (kept_told (after_rename two.now beside name) files all_three kept ∙ told_three, leaves.words ∙ ap (λ (d : Disk). d.said) disk))
        (λ undo. now_since P start two written files said undo)
        (rename_leaves two.now beside name files said apart leaves))

    module _ (four : Account) (is_four : four ≡ moved_on three (after_sync_names three.now) []) where
      pub names_synced : LeavesSince start four P
      names_synced = goes_on P start three four (after_sync_names three.now) renamed is_four (λ files said leaves.
          now_since P start three renamed files said (record { under = keeps_all three.now.pending three.now.names files leaves.under; words = leaves.words }))

      pub settled : IsSettled four.now
      settled = subst (λ (account : Account). IsSettled account.now) (sym is_four) (record {
        kept = refl;
        synced = λ other. subst (λ (account : Account). IsSyncedAt account.now other) (sym is_three) (all_three other);
      })
