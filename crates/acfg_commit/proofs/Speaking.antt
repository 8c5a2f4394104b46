-- What a cut leaves while a line is said.
use Rattle.std.proofs.Common.{◌≡◌, ◌⊎◌, ⊎_elim, ℕ, List, [], ◌++◌, refl, sym, ◌∙◌, ap, subst, append_assoc}
use Rattle.std.proofs.lemmas.List.{append-nil}
use Rattle.acfg_device.specs.Account.{Account, moved_on}
use Rattle.acfg_device.specs.Calls.{after_say}
use Rattle.acfg_device.specs.Disk.{IsSettled, told}
use Rattle.acfg_device.specs.Left.{LeavesSince, SaysOnly}
use Rattle.acfg_device.specs.Panel.{Files, SaysPart}
use Rattle.acfg_device.proofs.Cuts.{settled_leaves}
use Rattle.acfg_device.proofs.Moments.{says_on, started, stays, weakened}
use Rattle.acfg_commit.specs.Spoken.{LeavesWords}

module _ (start : Account) (line : List ℕ) where
  words_started : LeavesSince start start (LeavesWords start.now line)
  words_started = started (LeavesWords start.now line) start (λ files said may. record {
    may = record { under = may.under; words = refl };
    part = ([], line, refl, may.words ∙ sym (append-nil start.now.said));
  })

  pub line_said : (end : Account) (part rest : List ℕ) → line ≡ part ++ rest → end ≡ moved_on start (after_say start.now part) part → LeavesSince start end (LeavesWords start.now line)
  line_said end part rest split is = says_on (LeavesWords start.now line) start start end part words_started is (λ files said before may says. record {
    may = record { under = may.under; words = refl };
    part = (
      says.0,
      says.1 ++ rest,
      split ∙ ap (λ (p : List ℕ). p ++ rest) says.2 ∙ append_assoc says.0 says.1 rest,
      says.3 ∙ ap (λ (said : List ℕ). said ++ says.0) may.words,
    );
  })

  pub line_part : (end : Account) → (end ≡ start) ⊎ ((part rest : List ℕ) × (line ≡ part ++ rest) × (end ≡ moved_on start (after_say start.now part) part)) → LeavesSince start end (LeavesWords start.now line)
  line_part end was = ⊎_elim (stays (LeavesWords start.now line) start start end words_started) (λ half. line_said end half.0 half.1 half.2 half.3) was

  pub says_only : (end : Account) (first : Files) (spoken : List ℕ) → first ≡ told start.now → spoken ≡ start.now.said → IsSettled start.now → LeavesSince start end (LeavesWords start.now line)
      → LeavesSince start end (SaysOnly first spoken line)
  says_only end first spoken is_first is_spoken settled words = weakened (SaysOnly first spoken line) (LeavesWords start.now line) start end words (λ files said left. record {
    left = (settled_leaves start.now files start.now.said settled left.may).0 ∙ sym is_first;
    words = subst (λ (before : List ℕ). SaysPart before said line) (sym is_spoken) left.part;
  })
