-- How what was left since a moment goes on, call by call. Use these for a property of your own of what is left,
-- one step a call: it holds at the start (`started`), it goes on where a cut of the next disk has it (`goes_on`,
-- `says_on`), through a call that failed and did nothing (`stays`), and over a function that was called (`joined`).
--     goes_on P start middle end disk so_far wrote (λ files said leaves. ..)
use Rattle.std.proofs.Common.{◌≡◌, ◌⊎◌, inl, inr, ⊎_elim, ℕ, ◌≤◌, List, [], ◌∷◌, ◌++◌, length, refl, sym, ◌∙◌, ap, subst, arith, append_assoc, length-append}
use Rattle.std.proofs.lemmas.List.{append-nil}
use Rattle.acfg_device.specs.Account.{Account, Moment, moment, IsLater, LeftAmong, LeftSince, MightLeave, moved_on}
use Rattle.acfg_device.specs.Calls.{after_say}
use Rattle.acfg_device.specs.Disk.{Disk, MayLeave}
use Rattle.acfg_device.specs.Left.{LeavesSince}
use Rattle.acfg_device.specs.Panel.{Files, SaysPart}

-- from this moment on there is no earlier one
none_after : (past : List Moment) (since : ℕ) (files : Files) (said : List ℕ) → length past ≤ since → LeftAmong past since files said → ⊥
none_after [] since files said late left = left
none_after (newest ∷ earlier) since files said late left =
    ⊎_elim (λ now. absurd (omega (arith, now.0))) (λ then. none_after earlier since files said (omega arith) then) left

-- since this moment there is only this one
pub since_now : (account : Account) (files : Files) (said : List ℕ) → LeftSince account (moment account) files said → MayLeave account.now files said
since_now account files said left = ⊎_elim (λ now. now) (λ then. absurd (none_after account.past (moment account) files said (omega arith) then)) left

-- what this moment may leave was left since any moment before
pub left_now : (account : Account) (since : ℕ) (files : Files) (said : List ℕ) → MayLeave account.now files said → LeftSince account since files said
left_now account since files said now = inl now

-- ---- a later account

pub later_same : (account : Account) → IsLater account account
later_same account = record { more = []; past = refl }

pub later_moved_on : (account : Account) (disk : Disk) (saying : List ℕ) → IsLater account (moved_on account disk saying)
later_moved_on account disk saying = record { more = record { disk = account.now; saying = saying } ∷ []; past = refl }

pub later_join : (first second third : Account) → IsLater first second → IsLater second third → IsLater first third
later_join first second third earlier later = record {
  more = later.more ++ earlier.more;
  past = later.past ∙ ap (λ (past : List Moment). later.more ++ past) earlier.past ∙ sym (append_assoc later.more earlier.more first.past);
}

pub moment_later : (start end : Account) → IsLater start end → moment start ≤ moment end
moment_later start end later = omega (arith, ap length later.past, length-append later.more start.past)

-- what was left among moments that were joined
among_joined : (more past : List Moment) (since : ℕ) (files : Files) (said : List ℕ) → since ≤ length past → LeftAmong (more ++ past) since files said
    → LeftAmong (more ++ past) (length past) files said ⊎ LeftAmong past since files said
among_joined [] past since files said early left = inr left
among_joined (newest ∷ more) past since files said early left =
    ⊎_elim (λ now. inl (inl (omega (arith, length-append more past), now.1)))
    (λ then. ⊎_elim (λ among. inl (inr among)) (λ before. inr before) (among_joined more past since files said early then)) left

-- What was left since an earlier moment was left by the middle one, or since it.
pub since_joined : (middle end : Account) (since : ℕ) (files : Files) (said : List ℕ) → IsLater middle end → since ≤ moment middle → LeftSince end since files said
    → LeftSince middle since files said ⊎ LeftSince end (moment middle) files said
since_joined middle end since files said later early left =
    ⊎_elim (λ now. inr (inl now))
    (λ then. ⊎_elim
    (λ among. inr (inr (subst (λ (past : List Moment). LeftAmong past (moment middle) files said) (sym later.past) among)))
    (λ before. inl (inr before))
    (among_joined later.more middle.past since files said early (subst (λ (past : List Moment). LeftAmong past since files said) later.past then)))
    left

-- ---- a run of calls

module _ (P : Files → List ℕ → Type 0) where
  -- before the first call
  pub started : (account : Account) → ((files : Files) (said : List ℕ) → MayLeave account.now files said → P files said) → LeavesSince account account P
  started account here = record { later = later_same account; each = λ files said left. here files said (since_now account files said left) }

  -- a call that changed nothing
  pub stays : (start middle end : Account) → LeavesSince start middle P → end ≡ middle → LeavesSince start end P
  stays start middle end so_far same = subst (λ (account : Account). LeavesSince start account P) (sym same) so_far

  -- a call after which a cut leaves what has P
  pub goes_on : (start middle end : Account) (disk : Disk) → LeavesSince start middle P → end ≡ moved_on middle disk []
      → ((files : Files) (said : List ℕ) → MayLeave disk files said → P files said) → LeavesSince start end P
  goes_on start middle end disk so_far is here = subst (λ (account : Account). LeavesSince start account P) (sym is) (record {
    later = later_join start middle (moved_on middle disk []) so_far.later (later_moved_on middle disk []);
    each = λ files said left. ⊎_elim (here files said) (λ past. ⊎_elim (λ was. so_far.each files said (inl (before files said was.1))) (λ then. so_far.each files said (inr then)) past) left;
  })
    where
      before : (files : Files) (said : List ℕ) → MightLeave (record { disk = middle.now; saying = [] }) files said → MayLeave middle.now files said
      before files said might = record { under = might.under; words = nothing_said might.words.0 might.words.1 might.words.2 might.words.3 }
        where
          nothing_said : (part rest : List ℕ) → [] ≡ part ++ rest → said ≡ middle.now.said ++ part → said ≡ middle.now.said
          nothing_said [] rest none grew = grew ∙ append-nil middle.now.said
          nothing_said (x ∷ part) rest none grew = cc

  -- words are said: at each moment the first few of them are
  pub says_on : (start middle end : Account) (bytes : List ℕ) → LeavesSince start middle P → end ≡ moved_on middle (after_say middle.now bytes) bytes
      → ((files : Files) (said before : List ℕ) → MayLeave middle.now files before → SaysPart before said bytes → P files said) → LeavesSince start end P
  says_on start middle end bytes so_far is here = subst (λ (account : Account). LeavesSince start account P) (sym is) (record {
    later = later_join start middle (moved_on middle (after_say middle.now bytes) bytes) so_far.later (later_moved_on middle (after_say middle.now bytes) bytes);
    each = λ files said left. ⊎_elim
        (λ now. here files said middle.now.said (record { under = now.under; words = refl }) (bytes, [], sym (append-nil bytes), now.words))
        (λ past. ⊎_elim (λ was. here files said middle.now.said (record { under = was.1.under; words = refl }) was.1.words) (λ then. so_far.each files said (inr then)) past)
        left;
  })

  -- a function that was called
  pub joined : (Q : Files → List ℕ → Type 0) (start middle end : Account) → LeavesSince start middle P → LeavesSince middle end Q
      → ((files : Files) (said : List ℕ) → Q files said → P files said) → LeavesSince start end P
  joined Q start middle end so_far then weaker = record {
    later = later_join start middle end so_far.later then.later;
    each = λ files said left. ⊎_elim (so_far.each files said) (λ since. weaker files said (then.each files said since))
        (since_joined middle end (moment start) files said then.later (moment_later start middle so_far.later) left);
  }

  pub weakened : (Q : Files → List ℕ → Type 0) (start end : Account) → LeavesSince start end Q → ((files : Files) (said : List ℕ) → Q files said → P files said) → LeavesSince start end P
  weakened Q start end so_far weaker = record { later = so_far.later; each = λ files said left. weaker files said (so_far.each files said left) }
