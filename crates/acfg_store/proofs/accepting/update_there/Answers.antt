use Rattle.std.proofs.Common.{rules, ◌≡◌, ℕ, true, List, bytes_eq, refl, subst, sym}
use Rattle.acfg_device.specs.Left.{LeavesSince}
use Rattle.acfg_model.specs.State.{State}
use Rattle.acfg_store.specs.Applied.{LeavesBetween}
use Rattle.acfg_store.specs.Updated.{outcome_of, view_of}
use Rattle.acfg_store.proofs.Known.{step_same}
use Rattle.acfg_store.proofs.OverridesCommitted.{rests}
use Rattle.acfg_store.proofs.accepting.update_there.Goals as goal

pub returns-then-eq-clause-made : goal.returns-then-eq-clause-made
returns-then-eq-clause-made g c =
    let same : bytes_eq c.index.result.now.container.digest c.args.incoming.digest ≡ true = search rules in
    record {
      dir = refl;
      is = step_same c.args.kept.items c.requires.kept c.args.name.now c.args.at c.requires.stands c.index.result.now c.index.ensures c.args.incoming same;
    }

pub returns-then-eq-clause-cut : goal.returns-then-eq-clause-cut
returns-then-eq-clause-cut g c told settled =
    let account = g.D.Panel.account c.args.device.now in
    let first = g.D.Panel.files c.args.device.now in
    let store = view_of c.args.dir.now c.args.kept.items in
    let new : State = (outcome_of c.args.kept.items c.args.name.now c.args.incoming).0 in
    subst (λ (spoken : List ℕ). LeavesSince account account (LeavesBetween first spoken store new)) (sym (g.met.D.Panel.said_told c.args.device.now))
    (rests account first store new (g.met.D.Panel.files_told c.args.device.now) settled (c.requires.open told))
