use Rattle.std.proofs.Common.{ℕ, List, Some, subst, sym}
use Rattle.acfg_device.specs.Left.{LeavesSince}
use Rattle.acfg_model.specs.State.{State}
use Rattle.acfg_model.specs.Step.{update_step}
use Rattle.acfg_store.specs.Applied.{LeavesBetween, state_in}
use Rattle.acfg_store.specs.Loading.{set_loads}
use Rattle.acfg_store.proofs.OverridesCommitted.{rests}
use Rattle.acfg_store.proofs.store.Store.update_by.Goals as goal

pub returns-in_err-incoming-clause-cut : goal.returns-in_err-incoming-clause-cut
returns-in_err-incoming-clause-cut g c told settled =
    let account = g.D.Panel.account c.args.device.now in
    let first = g.D.Panel.files c.args.device.now in
    let new : State = (update_step (state_in c.args.self) c.args.name.now (Some (set_loads c.args.name.now (Some c.args.set)))).0 in
    subst (λ (spoken : List ℕ). LeavesSince account account (LeavesBetween first spoken c.args.self new)) (sym (g.met.D.Panel.said_told c.args.device.now))
    (rests account first c.args.self new (g.met.D.Panel.files_told c.args.device.now) settled (c.requires told))

pub returns-in-Err-clause-cut : goal.returns-in-Err-clause-cut
returns-in-Err-clause-cut g c told settled =
    let account = g.D.Panel.account c.args.device.now in
    let first = g.D.Panel.files c.args.device.now in
    let new : State = (update_step (state_in c.args.self) c.args.name.now (Some (set_loads c.args.name.now (Some c.args.set)))).0 in
    subst (λ (spoken : List ℕ). LeavesSince account account (LeavesBetween first spoken c.args.self new)) (sym (g.met.D.Panel.said_told c.args.device.now))
    (rests account first c.args.self new (g.met.D.Panel.files_told c.args.device.now) settled (c.requires told))
