-- What was left since the start of a run differs from a cut at the start in some names alone. Each call on
-- these names carries that on, whether it is done or fails. Use these in a function that makes calls, one step
-- a call; each exit is the steps so far. After a write, and a sync that failed:
--     carry_same _ _ _ _ (carry_write _ _ _ _ (carry_start _ _) _ _ among alone wrote) unchanged
use Rattle.std.proofs.Common.{◌≡◌, ◌≢◌, ◌⊎◌, ⊎_elim, ℕ, List, [], length, sym, subst}
use Rattle.acfg_device.specs.Account.{Account, moment, moved_on}
use Rattle.acfg_device.specs.Calls.{after_write, after_write_at, after_sync, after_rename, after_remove, after_sync_names}
use Rattle.acfg_device.specs.Disk.{MayLeave}
use Rattle.acfg_device.specs.Left.{LeavesSince, LeftBut, ChangesAlone}
use Rattle.acfg_device.specs.Panel.{Files}
use Rattle.acfg_device.proofs.AfterCalls.{Either, left_join, left_start, remove_leaves, rename_keeps, rename_leaves, sync_leaves, write_at_leaves, write_leaves}
use Rattle.acfg_device.proofs.Cuts.{keeps_all}
use Rattle.acfg_device.proofs.Moments.{goes_on, left_now, started, stays}

-- what a cut now may leave was left since the start
pub now_since : (P : Files → List ℕ → Type 0) (start end : Account) → LeavesSince start end P → (files : Files) (said : List ℕ) → MayLeave end.now files said → P files said
now_since P start end so_far files said leaves = so_far.each files said (left_now end (moment start) files said leaves)

module _ (changed : List ℕ → Type 0) (start : Account) where
  abbrev pub Carries : Account → Type 0
  Carries end = LeavesSince start end (LeftBut start.now changed)

  pub carry_start : Carries start
  carry_start = started (LeftBut start.now changed) start (left_start start.now changed)

  module _ (middle end : Account) (so_far : Carries middle) where
    pub carry_same : end ≡ middle → Carries end
    carry_same same = stays (LeftBut start.now changed) start middle end so_far same

    -- one step, of names that may change
    step : (names : List ℕ → Type 0) → ((name : List ℕ) → names name → changed name) → (files : Files) (said : List ℕ) → LeftBut middle.now names files said → LeftBut start.now changed files said
    step names among = left_join start.now middle.now changed names changed (λ name is. is) among (now_since (LeftBut start.now changed) start middle so_far)

    module _ (name : List ℕ) where
      pub carry_write : (bytes : List ℕ) → changed name → ChangesAlone middle.now name → end ≡ moved_on middle (after_write middle.now name bytes) [] → Carries end
      carry_write bytes among lone is = goes_on (LeftBut start.now changed) start middle end (after_write middle.now name bytes) so_far is
          (λ files said leaves. step (λ other. other ≡ name) (λ other same. subst changed (sym same) among) files said (write_leaves middle.now name files said bytes lone leaves))

      pub carry_write_err : changed name → ChangesAlone middle.now name → (end ≡ middle) ⊎ ((other : List ℕ) × (end ≡ moved_on middle (after_write middle.now name other) [])) → Carries end
      carry_write_err among lone was = ⊎_elim (λ same. carry_same same) (λ half. carry_write half.0 among lone half.1) was

      pub carry_write_at : (at : ℕ) (bytes : List ℕ) → changed name → ChangesAlone middle.now name → end ≡ moved_on middle (after_write_at middle.now name at bytes) [] → Carries end
      carry_write_at at bytes among lone is = goes_on (LeftBut start.now changed) start middle end (after_write_at middle.now name at bytes) so_far is
          (λ files said leaves. step (λ other. other ≡ name) (λ other same. subst changed (sym same) among) files said (write_at_leaves middle.now name files said at bytes lone leaves))

      pub carry_write_at_err : (at size : ℕ) → changed name → ChangesAlone middle.now name
          → (end ≡ middle) ⊎ ((other : List ℕ) × (length other ≡ size) × (end ≡ moved_on middle (after_write_at middle.now name at other) [])) → Carries end
      carry_write_at_err at size among lone was = ⊎_elim (λ same. carry_same same) (λ half. carry_write_at at half.0 among lone half.2) was

      pub carry_sync : end ≡ moved_on middle (after_sync middle.now name) [] → Carries end
      carry_sync is = goes_on (LeftBut start.now changed) start middle end (after_sync middle.now name) so_far is
          (λ files said leaves. now_since (LeftBut start.now changed) start middle so_far files said (sync_leaves middle.now name files said leaves))

      pub carry_rename : (to : List ℕ) → changed name → changed to → name ≢ to → end ≡ moved_on middle (after_rename middle.now name to) [] → Carries end
      carry_rename to among too apart is = goes_on (LeftBut start.now changed) start middle end (after_rename middle.now name to) so_far is
          (λ files said leaves. ⊎_elim
          (λ kept. step (Either name to) (λ other either. ⊎_elim (λ same. subst changed (sym same) among) (λ same. subst changed (sym same) too) either) files said
          (rename_keeps middle.now name to files said kept leaves.words))
          (λ undo. now_since (LeftBut start.now changed) start middle so_far files said undo)
          (rename_leaves middle.now name to files said apart leaves))

      pub carry_rename_err : (to : List ℕ) → changed name → changed to → name ≢ to → (end ≡ middle) ⊎ (end ≡ moved_on middle (after_rename middle.now name to) []) → Carries end
      carry_rename_err to among too apart was = ⊎_elim (λ same. carry_same same) (λ done. carry_rename to among too apart done) was

      pub carry_remove : changed name → end ≡ moved_on middle (after_remove middle.now name) [] → Carries end
      carry_remove among is = goes_on (LeftBut start.now changed) start middle end (after_remove middle.now name) so_far is
          (λ files said leaves. step (λ other. other ≡ name) (λ other same. subst changed (sym same) among) files said (remove_leaves middle.now name files said leaves))

      pub carry_remove_err : changed name → (end ≡ middle) ⊎ (end ≡ moved_on middle (after_remove middle.now name) []) → Carries end
      carry_remove_err among was = ⊎_elim (λ same. carry_same same) (λ done. carry_remove among done) was

    pub carry_sync_names : end ≡ moved_on middle (after_sync_names middle.now) [] → Carries end
    carry_sync_names is = goes_on (LeftBut start.now changed) start middle end (after_sync_names middle.now) so_far is
        (λ files said leaves. now_since (LeftBut start.now changed) start middle so_far files said
        (record { under = keeps_all middle.now.pending middle.now.names files leaves.under; words = leaves.words }))
