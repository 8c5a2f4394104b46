-- What a cut leaves while files are written and then the one that names them is replaced.
use Rattle.std.proofs.Common.{◌≡◌, ◌⊎◌, inl, inr, ℕ, List, subst}
use Rattle.acfg_device.specs.Account.{Account}
use Rattle.acfg_device.specs.Disk.{IsSettled, told}
use Rattle.acfg_device.specs.Left.{IsEither, LeavesBut, LeavesSince, LeftOrNew}
use Rattle.acfg_device.specs.Panel.{Files}
use Rattle.acfg_device.proofs.Runs.{carry_more, carry_new, settled_new, settled_run}
use Rattle.acfg_commit.specs.Written.{IsNameAmong, replaced, written}
use Rattle.acfg_commit.specs.declared.several.NewFile.{NewFile}

module _ (start middle end : Account) (files : List NewFile) (beside name bytes : List ℕ) (first : Files) (spoken : List ℕ) (is_first : first ≡ told start.now) (is_spoken : spoken ≡ start.now.said) (settled : IsSettled start.now)
    (cut : LeavesBut (IsNameAmong files) start middle) where
  abbrev Changed : List ℕ → Type 0
  Changed other = IsNameAmong files other ⊎ (other ≡ beside)

  abbrev New : Files
  New = replaced beside name bytes (written files first)

  pub not_committed : LeavesSince start middle (IsEither first spoken Changed New)
  not_committed = settled_run Changed first spoken New is_first is_spoken settled (carry_more (IsNameAmong files) Changed (λ name is. inl is) cut)

  pub committed : (now : Files) → now ≡ written files first → middle.now.said ≡ start.now.said → LeavesSince middle end (LeftOrNew middle.now (λ (other : List ℕ). other ≡ beside) (replaced beside name bytes now))
      → LeavesSince start end (IsEither first spoken Changed New)
  committed now is same late = settled_new Changed first spoken New is_first is_spoken settled
      (carry_new (IsNameAmong files) (λ (other : List ℕ). other ≡ beside) Changed New (λ name among. inl among) (λ name here. inr here) same cut
      (subst (λ (f : Files). LeavesSince middle end (LeftOrNew middle.now (λ (other : List ℕ). other ≡ beside) (replaced beside name bytes f))) is late))
