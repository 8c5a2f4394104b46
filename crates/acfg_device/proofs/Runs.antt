-- What functions that call functions leave: words of `Left` joined and made stronger where the start is
-- settled. Use them in a function of several moves: the cut of the first, the cut of the second, one lemma;
-- and at an exit before the first call `at_rest`. As
--     settled_run _ _ refl refl settled (carry_run _ _ _ (λ name is. is) first_cut second_cut)
use Rattle.std.proofs.Common.{◌≡◌, inl, inr, ⊎_elim, ℕ, List, sym, ◌∙◌, ap, subst}
use Rattle.acfg_device.specs.Account.{Account}
use Rattle.acfg_device.specs.Disk.{IsSettled, MayLeave, told}
use Rattle.acfg_device.specs.Left.{IsEither, LeavesBut, LeavesSince, LeftBut, LeftOrNew}
use Rattle.acfg_device.specs.Panel.{Files}
use Rattle.acfg_device.proofs.AfterCalls.{left_join, left_weaker, settled_but}
use Rattle.acfg_device.proofs.Carried.{now_since}
use Rattle.acfg_device.proofs.Cuts.{settled_leaves}
use Rattle.acfg_device.proofs.Moments.{joined, started, weakened}

-- One run behind another: each changed what a cut leaves in names of its own.
pub carry_run : {start middle end : Account} (first second changed : List ℕ → Type 0) → ((name : List ℕ) → first name → changed name) → ((name : List ℕ) → second name → changed name)
    → LeavesBut first start middle → LeavesBut second middle end → LeavesBut changed start end
carry_run {start} {middle} {end} first second changed in_first in_second early late = joined (LeftBut start.now changed) (LeftBut middle.now second) start middle end
    (weakened (LeftBut start.now changed) (LeftBut start.now first) start middle early (left_weaker start.now first changed in_first)) late
    (left_join start.now middle.now first second changed in_first in_second (now_since (LeftBut start.now first) start middle early))

-- more names may have changed
pub carry_more : {start end : Account} (first changed : List ℕ → Type 0) → ((name : List ℕ) → first name → changed name) → LeavesBut first start end → LeavesBut changed start end
carry_more {start} {end} first changed in_first cut = weakened (LeftBut start.now changed) (LeftBut start.now first) start end cut (left_weaker start.now first changed in_first)

-- a run that has not come to the new files
pub carry_old : {start end : Account} (changed : List ℕ → Type 0) (new : Files) → LeavesBut changed start end → LeavesSince start end (LeftOrNew start.now changed new)
carry_old {start} {end} changed new cut = weakened (LeftOrNew start.now changed new) (LeftBut start.now changed) start end cut (λ files said left. inl left)

-- A run that leaves exactly the new files, or what its start left.
pub carry_new : {start middle end : Account} (first second changed : List ℕ → Type 0) (new : Files) → ((name : List ℕ) → first name → changed name) → ((name : List ℕ) → second name → changed name)
    → middle.now.said ≡ start.now.said → LeavesBut first start middle → LeavesSince middle end (LeftOrNew middle.now second new) → LeavesSince start end (LeftOrNew start.now changed new)
carry_new {start} {middle} {end} first second changed new in_first in_second same early late = joined (LeftOrNew start.now changed new) (LeftOrNew middle.now second new) start middle end
    (weakened (LeftOrNew start.now changed new) (LeftBut start.now first) start middle early (λ files said left. inl (left_weaker start.now first changed in_first files said left))) late
    (λ files said left. ⊎_elim
    (λ was. inl (left_join start.now middle.now first second changed in_first in_second (now_since (LeftBut start.now first) start middle early) files said was))
    (λ is. inr (is.0, is.1 ∙ same)) left)

-- ---- from a settled start

-- At an exit before the first call: what has `P` is what is told.
pub at_rest : {account : Account} (P : Files → List ℕ → Type 0) (first : Files) (spoken : List ℕ) → first ≡ told account.now → spoken ≡ account.now.said → IsSettled account.now → P first spoken
    → LeavesSince account account P
at_rest {account} P first spoken files said settled here = started P account (λ left words leaves.
    let is = settled_leaves account.now left words settled leaves in
    subst (λ (f : Files). P f words) (files ∙ sym is.0) (subst (P first) (said ∙ sym is.1) here))

-- What is left but for some names is what was told, but for these.
pub settled_run : {start end : Account} (changed : List ℕ → Type 0) (first : Files) (spoken : List ℕ) (new : Files) → first ≡ told start.now → spoken ≡ start.now.said → IsSettled start.now
    → LeavesBut changed start end → LeavesSince start end (IsEither first spoken changed new)
settled_run {start} {end} changed first spoken new files said settled cut = weakened (IsEither first spoken changed new) (LeftBut start.now changed) start end cut (λ left words was.
    let is = settled_but start.now changed left words settled was in
    record { left = inl (λ name apart. is.0 name apart ∙ sym (ap (λ (f : Files). f name) files)); words = is.1 ∙ sym said })

pub settled_new : {start end : Account} (changed : List ℕ → Type 0) (first : Files) (spoken : List ℕ) (new : Files) → first ≡ told start.now → spoken ≡ start.now.said → IsSettled start.now
    → LeavesSince start end (LeftOrNew start.now changed new) → LeavesSince start end (IsEither first spoken changed new)
settled_new {start} {end} changed first spoken new files said settled cut = weakened (IsEither first spoken changed new) (LeftOrNew start.now changed new) start end cut (λ left words was.
    ⊎_elim
    (λ but. let is = settled_but start.now changed left words settled but in
    record { left = inl (λ name apart. is.0 name apart ∙ sym (ap (λ (f : Files). f name) files)); words = is.1 ∙ sym said })
    (λ is. record { left = inr is.0; words = is.1 ∙ sym said })
    was)

-- Where no name may have changed, exactly what was told is left.
pub nothing_changed : {start end : Account} (first : Files) (spoken : List ℕ) → first ≡ told start.now → spoken ≡ start.now.said → IsSettled start.now
    → LeavesSince start end (MayLeave start.now) → LeavesSince start end (λ files said. (files ≡ first) × (said ≡ spoken))
nothing_changed {start} {end} first spoken files said settled cut = weakened (λ left words. (left ≡ first) × (words ≡ spoken)) (MayLeave start.now) start end cut (λ left words leaves.
    let is = settled_leaves start.now left words settled leaves in (is.0 ∙ sym files, is.1 ∙ sym said))
