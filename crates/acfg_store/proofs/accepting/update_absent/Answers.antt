use Rattle.std.proofs.Common.{rules, ℕ, ◌≤◌, List, length, refl, ap, ◌∙◌, subst, sym}
use Rattle.acfg_device.specs.Left.{LeavesSince}
use Rattle.acfg_model.specs.declared.requests.Reply.TheVariants.{Refused}
use Rattle.acfg_model.specs.State.{State, most_containers}
use Rattle.acfg_model.proofs.Kept.{pair_of}
use Rattle.acfg_store.specs.Applied.{LeavesBetween}
use Rattle.acfg_store.specs.Opening.{entries_of}
use Rattle.acfg_store.specs.Stands.{state_of}
use Rattle.acfg_store.specs.Updated.{outcome_of, view_of}
use Rattle.acfg_store.proofs.Added.{full_refused}
use Rattle.acfg_store.proofs.OverridesCommitted.{rests}
use Rattle.acfg_store.proofs.accepting.update_absent.Goals as goal

pub returns-then-as_slice-ge-MOST_CONTAINERS-clause-made :
    goal.returns-then-as_slice-ge-MOST_CONTAINERS-clause-made
returns-then-as_slice-ge-MOST_CONTAINERS-clause-made g c =
    let full : most_containers ≤ length c.args.kept.items = search rules in
    record {
      dir = refl;
      is = full_refused c.args.kept.items c.requires.kept c.args.name.now c.args.at c.requires.gap c.args.incoming full
          ∙ ap (λ (n : ℕ). pair_of (state_of (entries_of c.args.kept.items)) (Refused n)) (sym c.number.ensures);
    }

pub returns-then-as_slice-ge-MOST_CONTAINERS-clause-cut :
    goal.returns-then-as_slice-ge-MOST_CONTAINERS-clause-cut
returns-then-as_slice-ge-MOST_CONTAINERS-clause-cut g c told settled =
    let account = g.D.Panel.account c.args.device.now in
    let first = g.D.Panel.files c.args.device.now in
    let store = view_of c.args.dir.now c.args.kept.items in
    let new : State = (outcome_of c.args.kept.items c.args.name.now c.args.incoming).0 in
    subst (λ (spoken : List ℕ). LeavesSince account account (LeavesBetween first spoken store new)) (sym (g.met.D.Panel.said_told c.args.device.now))
    (rests account first store new (g.met.D.Panel.files_told c.args.device.now) settled (c.requires.open told))
