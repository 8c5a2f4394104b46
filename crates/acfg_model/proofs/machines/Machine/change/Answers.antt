use Rattle.std.proofs.Common.{sym, ap, subst, ◌∙◌}
use Rattle.acfg_base.specs.Places.{StandsAt, WouldStandAt}
use Rattle.acfg_model.specs.declared.requests.Reply.TheVariants.{Refused}
use Rattle.acfg_model.specs.State.{Container, State, name_cmp}
use Rattle.acfg_model.specs.Step.{change_step, with_override}
use Rattle.acfg_model.specs.Machines.{kept_name}
use Rattle.acfg_model.proofs.Kept.{pair_of, IsKept-set, replaced-made, replaced-absent}
use Rattle.acfg_model.proofs.machines.Machine.change.Goals as goal

pub invariant_of-self : goal.invariant_of-self
invariant_of-self c =
    let stands = subst (λ list. StandsAt name_cmp kept_name list c.args.name.now c.in-Ok.at) c.deref.ensures.value c.in-Ok.ensures in
    IsKept-set c.self.inside.containers.items c.self.invariant c.args.name.now c.in-Ok.at stands c.index_mut-named.result.now c.index_mut-named.ensures.value c.change_for.new.self c.change_for.ensures.valid

pub returns-in-Ok : goal.returns-in-Ok
returns-in-Ok c =
    let f = λ (container : Container). with_override c.args.now container c.args.change.now in
    let stands = subst (λ list. StandsAt name_cmp kept_name list c.args.name.now c.in-Ok.at) c.deref.ensures.value c.in-Ok.ensures in
    ap (λ (s : State). change_step c.args.now s c.args.name.now c.args.change.now) (sym c.self.view_is)
    ∙ replaced-made c.self.inside.containers.items c.self.invariant c.args.name.now c.in-Ok.at stands c.index_mut-named.result.now c.index_mut-named.ensures.value c.change_for.new.self f c.change_for.result c.change_for.ensures.outcome c.reply.result c.reply.ensures

pub returns-in-Err : goal.returns-in-Err
returns-in-Err c =
    let f = λ (container : Container). with_override c.args.now container c.args.change.now in
    let gap = subst (λ list. WouldStandAt name_cmp kept_name list c.args.name.now c.in-Err.field-0) c.deref.ensures.value c.in-Err.ensures in
    ap (λ (s : State). change_step c.args.now s c.args.name.now c.args.change.now) (sym c.self.view_is)
    ∙ replaced-absent c.self.inside.containers.items c.args.name.now c.in-Err.field-0 f gap
    ∙ ap (λ (s : State). pair_of s (Refused 2)) c.self.view_is
    ∙ ap (λ n. pair_of c.args.self.now (Refused n)) (sym c.number.ensures)
