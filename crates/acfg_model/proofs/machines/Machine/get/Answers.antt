use Rattle.std.proofs.Common.{Some, option_map, sym, ap, subst, ◌∙◌}
use Rattle.std.specs.FinMap.{get}
use Rattle.acfg_base.specs.Places.{StandsAt, WouldStandAt}
use Rattle.acfg_base.specs.Release.{Key}
use Rattle.acfg_model.specs.declared.requests.Reply.TheVariants.{Refused}
use Rattle.acfg_model.specs.State.{Container, State, name_cmp}
use Rattle.acfg_model.specs.Step.{boot_value_in, value_reply}
use Rattle.acfg_model.specs.Machines.{kept_name}
use Rattle.acfg_model.proofs.Kept.{state_at, state_absent}
use Rattle.acfg_model.proofs.machines.Machine.get.Goals as goal

pub returns-in-Ok-boot_value : goal.returns-in-Ok-boot_value
returns-in-Ok-boot_value c =
    let key : Key = (c.args.package.now, c.args.flag.now) in
    let stands = subst (λ list. StandsAt name_cmp kept_name list c.args.name.now c.in-Ok.at) c.deref.ensures.value c.in-Ok.ensures in
    let there = state_at c.self.inside.containers.items c.self.invariant c.args.name.now c.in-Ok.at stands c.index-named.result.now c.index-named.ensures in
    ap (λ v. value_reply (Some v)) (sym c.in-Ok-boot_value.is ∙ c.boot_value.ensures)
    ∙ ap (λ t. value_reply (option_map (λ (d : Container). boot_value_in d.boot key) t)) (sym there ∙ ap (λ (s : State). get s c.args.name.now) c.self.view_is)

pub returns-in-Err-boot_value : goal.returns-in-Err-boot_value
returns-in-Err-boot_value c =
    let key : Key = (c.args.package.now, c.args.flag.now) in
    let stands = subst (λ list. StandsAt name_cmp kept_name list c.args.name.now c.in-Ok.at) c.deref.ensures.value c.in-Ok.ensures in
    let there = state_at c.self.inside.containers.items c.self.invariant c.args.name.now c.in-Ok.at stands c.index-named.result.now c.index-named.ensures in
    ap Refused c.number.ensures ∙ ap (λ v. value_reply (Some v)) (sym c.in-Err-boot_value.is ∙ c.boot_value.ensures)
    ∙ ap (λ t. value_reply (option_map (λ (d : Container). boot_value_in d.boot key) t)) (sym there ∙ ap (λ (s : State). get s c.args.name.now) c.self.view_is)

pub returns-in-Err : goal.returns-in-Err
returns-in-Err c =
    let key : Key = (c.args.package.now, c.args.flag.now) in
    let gap = subst (λ list. WouldStandAt name_cmp kept_name list c.args.name.now c.in-Err.field-0) c.deref.ensures.value c.in-Err.ensures in
    ap Refused c.number-in-Err.ensures
    ∙ ap (λ t. value_reply (option_map (λ (d : Container). boot_value_in d.boot key) t)) (sym (state_absent c.self.inside.containers.items c.args.name.now c.in-Err.field-0 gap) ∙ ap (λ (s : State). get s c.args.name.now) c.self.view_is)
