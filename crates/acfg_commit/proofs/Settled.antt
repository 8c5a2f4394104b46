-- What a cut leaves while a file and the names are synced: what one at the start might have left.
use Rattle.std.proofs.Common.{◌≡◌, ℕ, List, []}
use Rattle.acfg_device.specs.Account.{Account, moved_on}
use Rattle.acfg_device.specs.Calls.{after_sync, after_sync_names}
use Rattle.acfg_device.specs.Disk.{MayLeave}
use Rattle.acfg_device.specs.Left.{LeavesSince}
use Rattle.acfg_device.proofs.AfterCalls.{sync_leaves}
use Rattle.acfg_device.proofs.Carried.{now_since}
use Rattle.acfg_device.proofs.Cuts.{keeps_all}
use Rattle.acfg_device.proofs.Moments.{goes_on, started}

pub at_start : (start : Account) → LeavesSince start start (MayLeave start.now)
at_start start = started (MayLeave start.now) start (λ files said leaves. leaves)

pub file_synced : (start one : Account) (name : List ℕ) → one ≡ moved_on start (after_sync start.now name) [] → LeavesSince start one (MayLeave start.now)
file_synced start one name is = goes_on (MayLeave start.now) start start one (after_sync start.now name) (at_start start) is (λ files said leaves. sync_leaves start.now name files said leaves)

pub names_synced : (start one two : Account) → LeavesSince start one (MayLeave start.now) → two ≡ moved_on one (after_sync_names one.now) [] → LeavesSince start two (MayLeave start.now)
names_synced start one two so_far is = goes_on (MayLeave start.now) start one two (after_sync_names one.now) so_far is (λ files said leaves.
    now_since (MayLeave start.now) start one so_far files said (record { under = keeps_all one.now.pending one.now.names files leaves.under; words = leaves.words }))
