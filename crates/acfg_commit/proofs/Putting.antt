-- What a cut leaves while bytes are put into a file of a settled disk, and while it is synced.
use Rattle.std.proofs.Common.{◌≡◌, ◌+◌, ◌≤◌, inr, ℕ, List, [], ◌∷◌, Option, IsSomeAnd, length, sym, ◌∙◌, ap, subst, refl}
use Rattle.std.specs.Option.{option_map}
use Rattle.acfg_device.specs.Account.{Account, moved_on}
use Rattle.acfg_device.specs.Calls.{after_sync, after_write_at, overwritten}
use Rattle.acfg_device.specs.Disk.{Change, File, IsSettled, KeepsNames, KeepsSome, MayStand, SameOutside, told}
use Rattle.acfg_device.specs.Left.{ChangesRange, LeavesSince}
use Rattle.acfg_device.specs.Panel.{Files}
use Rattle.acfg_device.proofs.AfterCalls.{settled_but, sync_leaves, write_at_leaves}
use Rattle.acfg_device.proofs.Carried.{now_since}
use Rattle.acfg_device.proofs.Moments.{goes_on}
use Rattle.acfg_device.proofs.Naming.{update_here}
use Rattle.acfg_device.proofs.Ranges.{range_here, range_left}
use Rattle.acfg_device.proofs.Runs.{at_rest}
use Rattle.acfg_device.proofs.Settling.{settled_ready}

module _ (start : Account) (name : List ℕ) (at size : ℕ) (first : Files) (spoken : List ℕ) (is_first : first ≡ told start.now) (is_spoken : spoken ≡ start.now.said) (settled : IsSettled start.now)
    (fits : IsSomeAnd (first name) (λ (held : List ℕ). at + size ≤ length held)) where
  abbrev P : Files → List ℕ → Type 0
  P = ChangesRange first spoken name at size

  pub untouched : LeavesSince start start P
  untouched = at_rest P first spoken is_first is_spoken settled (record { others = λ other apart. refl; range = range_here (first name) at size fits; words = refl })

  pub put : (one : Account) (other : List ℕ) → length other ≡ size → one ≡ moved_on start (after_write_at start.now name at other) [] → LeavesSince start one P
  put one other long is = goes_on P start start one (after_write_at start.now name at other) untouched is (λ files said leaves.
      let but = settled_but start.now (λ (n : List ℕ). n ≡ name) files said settled (write_at_leaves start.now name files said at other (inr ((settled_ready start.now settled).free name)) leaves) in
      let keeps : KeepsNames (after_write_at start.now name at other).names files = subst (λ (pending : List Change). KeepsSome pending (after_write_at start.now name at other).names files) settled.kept leaves.under in
      let stands : MayStand (option_map (overwritten at other) (start.now.names name)) (files name)
      = subst (λ (file : Option File). MayStand file (files name)) (update_here start.now.names name (option_map (overwritten at other) (start.now.names name))) (keeps name) in
      let has : IsSomeAnd (told start.now name) (λ (held : List ℕ). at + length other ≤ length held)
      = subst (λ (n : ℕ). IsSomeAnd (told start.now name) (λ (held : List ℕ). at + n ≤ length held)) (sym long) (subst (λ (f : Files). IsSomeAnd (f name) (λ (held : List ℕ). at + size ≤ length held)) is_first fits) in
      let range = range_left (start.now.names name) (files name) at other (settled.synced name) has stands in
      record {
        others = λ n apart. but.0 n apart ∙ sym (ap (λ (f : Files). f n) is_first);
        range = subst (λ (f : Files). IsSomeAnd (f name) (λ (held : List ℕ). IsSomeAnd (files name) (SameOutside ((at, size) ∷ []) held))) (sym is_first)
            (subst (λ (n : ℕ). IsSomeAnd (told start.now name) (λ (held : List ℕ). IsSomeAnd (files name) (SameOutside ((at, n) ∷ []) held))) long range);
        words = but.1 ∙ sym is_spoken;
      })

  pub then_synced : (one two : Account) → LeavesSince start one P → two ≡ moved_on one (after_sync one.now name) [] → LeavesSince start two P
  then_synced one two so_far is = goes_on P start one two (after_sync one.now name) so_far is (λ files said leaves. now_since P start one so_far files said (sync_leaves one.now name files said leaves))
