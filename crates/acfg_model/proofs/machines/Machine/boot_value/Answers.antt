use Rattle.std.proofs.Common.{sym, ap, subst, ◌∙◌}
use Rattle.acfg_base.specs.Places.{StandsAt, WouldStandAt}
use Rattle.acfg_base.specs.Release.{Key}
use Rattle.acfg_model.specs.State.{State, name_cmp}
use Rattle.acfg_model.specs.Step.{booted_value}
use Rattle.acfg_model.specs.Machines.{kept_name}
use Rattle.acfg_model.proofs.Kept.{state_at, state_absent, booted_value-is, booted_value-none, booted_value-absent}
use Rattle.acfg_model.proofs.machines.Machine.boot_value.Goals as goal

pub returns-in-Ok-boot_value-clause-value : goal.returns-in-Ok-boot_value-clause-value
returns-in-Ok-boot_value-clause-value c =
    let key : Key = (c.args.package.now, c.args.flag.now) in
    let stands = subst (λ list. StandsAt name_cmp kept_name list c.args.container.now c.in-Ok.at) c.deref.ensures.value c.in-Ok.ensures in
    let there = state_at c.self.inside.containers.items c.self.invariant c.args.container.now c.in-Ok.at stands c.index-named.result.now c.index-named.ensures in
    sym (booted_value-is _ c.args.container.now key c.index-named.result.now.container there c.in-Ok-boot_value.value (sym c.boot_value.ensures ∙ c.in-Ok-boot_value.is))
    ∙ ap (λ (s : State). booted_value s c.args.container.now key) c.self.view_is

pub returns-in-Err-boot_value-clause-value : goal.returns-in-Err-boot_value-clause-value
returns-in-Err-boot_value-clause-value c =
    let key : Key = (c.args.package.now, c.args.flag.now) in
    let stands = subst (λ list. StandsAt name_cmp kept_name list c.args.container.now c.in-Ok.at) c.deref.ensures.value c.in-Ok.ensures in
    let there = state_at c.self.inside.containers.items c.self.invariant c.args.container.now c.in-Ok.at stands c.index-named.result.now c.index-named.ensures in
    sym (booted_value-none _ c.args.container.now key c.index-named.result.now.container there c.in-Err-boot_value.field-0 (sym c.boot_value.ensures ∙ c.in-Err-boot_value.is))
    ∙ ap (λ (s : State). booted_value s c.args.container.now key) c.self.view_is

pub returns-in-Err-clause-value : goal.returns-in-Err-clause-value
returns-in-Err-clause-value c =
    let key : Key = (c.args.package.now, c.args.flag.now) in
    let gap = subst (λ list. WouldStandAt name_cmp kept_name list c.args.container.now c.in-Err.field-0) c.deref.ensures.value c.in-Err.ensures in
    sym (booted_value-absent _ c.args.container.now key (state_absent c.self.inside.containers.items c.args.container.now c.in-Err.field-0 gap))
    ∙ ap (λ (s : State). booted_value s c.args.container.now key) c.self.view_is
