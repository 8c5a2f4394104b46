use Rattle.std.proofs.Common.{ℕ, ◌<◌, List, length, refl, sym, subst, arith}
use Rattle.acfg_device.specs.Left.{LeavesSince}
use Rattle.acfg_device.specs.Panel.{Files}
use Rattle.acfg_device.proofs.Moments.{joined}
use Rattle.acfg_device.proofs.OnlyThen.{changes_then}
use Rattle.acfg_store.specs.declared.store_fault.StoreFault.TheVariants.{Device, OutOfMemory}
use Rattle.acfg_store.specs.Applied.{LeavesBetween, state_in}
use Rattle.acfg_store.specs.BootPlans.{LeavesBooted}
use Rattle.acfg_store.specs.Names.{IsOfDirectory}
use Rattle.acfg_store.proofs.AllBooted.{all_booted, between_next, between_so_far, booted_all, booted_next, changes_in, place_so_far, same_fault}
use Rattle.acfg_store.proofs.OverridesCommitted.{rests}
use Rattle.acfg_store.proofs.store.Store.boot.Goals as goal

pub loop-at-init : goal.loop-at-init
loop-at-init g c =
    let account = g.D.Panel.account c.args.device.now in
    let first = g.D.Panel.files c.args.device.now in
    record {
      booted = record { dir = refl; entries = refl; others = λ name foreign. refl; words = refl };
      changes = record { others = λ name foreign. refl; said = refl; count = omega arith; failed = λ never. absurd never };
      opened = λ told. c.requires.open told;
      cut = λ told settled. subst (λ (spoken : List ℕ). LeavesSince account account (LeavesBetween first spoken c.args.self (all_booted (state_in c.args.self)))) (sym (g.met.D.Panel.said_told c.args.device.now))
          (rests account first c.args.self (all_booted (state_in c.args.self)) (g.met.D.Panel.files_told c.args.device.now) settled (c.requires.open told));
      settled = λ told settled. settled;
    }

pub boot_at-requires-clause-within : goal.boot_at-requires-clause-within
boot_at-requires-clause-within g c =
    let at = c.loop-at.at in
    let within : at < length c.args.self.entries = subst (λ (n : ℕ). at < n) c.count-count.ensures c.loop-at-test.true in
    place_so_far c.args.self.entries at c.loop-at.store.entries at c.loop-at.invariant.booted.entries within

pub returns-in-Err-clause-changes : goal.returns-in-Err-clause-changes
returns-in-Err-clause-changes g c =
    let so_far = c.loop-at.invariant in
    changes_then (IsOfDirectory c.args.self.dir) so_far.changes (changes_in c.loop-at.store.dir c.args.self.dir so_far.booted.dir c.in-Err.ensures.changes) (λ fails. same_fault c.in-Err.fault Device fails)

pub returns-in-Err-clause-memory : goal.returns-in-Err-clause-memory
returns-in-Err-clause-memory g c told refused =
    let so_far = c.loop-at.invariant in
    let first = g.D.Panel.files c.args.device.now in
    let spoken = g.D.Panel.said c.args.device.now in
    let files = g.D.Panel.files c.loop-at.device in
    let said = g.D.Panel.said c.loop-at.device in
    let reads = c.in-Err.ensures.memory (same_fault c.in-Err.fault OutOfMemory refused) in
    subst (λ (left : Files × List ℕ). LeavesBetween first spoken c.args.self (all_booted (state_in c.args.self)) left.0 left.1) (λ i. (sym reads.files i, sym reads.said i))
    (between_so_far first spoken c.args.self c.loop-at.at c.loop-at.store files said so_far.booted (so_far.opened told))

pub returns-in-Err-clause-cut : goal.returns-in-Err-clause-cut
returns-in-Err-clause-cut g c told settled =
    let at = c.loop-at.at in
    let within : at < length c.args.self.entries = subst (λ (n : ℕ). at < n) c.count-count.ensures c.loop-at-test.true in
    let so_far = c.loop-at.invariant in
    let first = g.D.Panel.files c.args.device.now in
    let spoken = g.D.Panel.said c.args.device.now in
    let files = g.D.Panel.files c.loop-at.device in
    let said = g.D.Panel.said c.loop-at.device in
    joined (LeavesBetween first spoken c.args.self (all_booted (state_in c.args.self))) (LeavesBooted files said c.loop-at.store at) (g.D.Panel.account c.args.device.now) (g.D.Panel.account c.loop-at.device)
    (g.D.Panel.account c.boot_at.new.device) (so_far.cut told settled) (c.in-Err.ensures.cut told (so_far.settled told settled))
    (between_next first spoken c.args.self at within c.loop-at.store files said so_far.booted)

pub loop-at-preserved : goal.loop-at-preserved
loop-at-preserved g c =
    let at = c.loop-at.at in
    let within : at < length c.args.self.entries = subst (λ (n : ℕ). at < n) c.count-count.ensures c.loop-at-test.true in
    let so_far = c.loop-at.invariant in
    let first = g.D.Panel.files c.args.device.now in
    let spoken = g.D.Panel.said c.args.device.now in
    let files = g.D.Panel.files c.loop-at.device in
    let said = g.D.Panel.said c.loop-at.device in
    let booting = c.in-Ok.ensures in
    record {
      booted = booted_next first spoken c.args.self at within c.loop-at.store files said so_far.booted c.in-Ok.booted (g.D.Panel.files c.boot_at.new.device) (g.D.Panel.said c.boot_at.new.device)
          booting.dir booting.entries booting.changes.others booting.changes.said;
      changes = changes_then (IsOfDirectory c.args.self.dir) so_far.changes (changes_in c.loop-at.store.dir c.args.self.dir so_far.booted.dir booting.changes) (λ never. absurd never);
      opened = booting.open;
      cut = λ told settled. joined (LeavesBetween first spoken c.args.self (all_booted (state_in c.args.self))) (LeavesBooted files said c.loop-at.store at) (g.D.Panel.account c.args.device.now)
          (g.D.Panel.account c.loop-at.device) (g.D.Panel.account c.boot_at.new.device) (so_far.cut told settled) (booting.cut told (so_far.settled told settled))
          (between_next first spoken c.args.self at within c.loop-at.store files said so_far.booted);
      settled = λ told settled. booting.settled told (so_far.settled told settled);
    }

pub returns-clause-made : goal.returns-clause-made
returns-clause-made g c =
    booted_all (g.D.Panel.files c.args.device.now) (g.D.Panel.said c.args.device.now) c.args.self c.loop-at.at c.count-count.result c.loop-at.store (g.D.Panel.files c.loop-at.device) (g.D.Panel.said c.loop-at.device)
    c.loop-at.invariant.booted c.loop-at.auto.at-end c.loop-at-test.false c.count-count.ensures
