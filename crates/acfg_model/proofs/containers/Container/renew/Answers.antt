use Rattle.std.proofs.Common.{◌≡◌, ◌∙◌, List, Option, Some, option_map, sym, ap, subst}
use Rattle.std.specs.FinMap.{get}
use Rattle.acfg_base.specs.Places.{StandsAt, WouldStandAt}
use Rattle.acfg_base.specs.Release.{Key, key_cmp}
use Rattle.acfg_model.specs.declared.containers.FlagState.{FlagState}
use Rattle.acfg_model.specs.FlagStates.{container_in, row_key}
use Rattle.acfg_model.specs.State.{BootMap, Container, IsValidContainer}
use Rattle.acfg_model.specs.Step.{IsRenewable, renewed}
use Rattle.acfg_model.specs.Views.{boot_of}
use Rattle.acfg_model.proofs.Renewals.{renewed_absent, renewed_by_row}
use Rattle.acfg_model.proofs.Rowed.{release_absent}
use Rattle.acfg_model.proofs.Valid.{IsValidContainer-renewed}
use Rattle.acfg_model.proofs.containers.Container.renew.Goals as goal
use Rattle.acfg_model.proofs.containers.Container.renew.Goals.{in-Some-1, in-None-1}

pub invariant_of-self-in-Some-2 : goal.invariant_of-self-in-Some-2
invariant_of-self-in-Some-2 c =
    let kept = c.self.inside in
    let rows : List FlagState = kept.rows.items in
    let key : Key = c.args.key.now in
    let boot : Option BootMap = option_map boot_of kept.boot in
    let named : (c.package.result.now, c.flag.result.now) ≡ key = λ i. (c.package.ensures i, c.flag.ensures i) in
    let stands : StandsAt key_cmp row_key rows key c.in-Ok.at =
    subst (λ (list : List FlagState). StandsAt key_cmp row_key list key c.in-Ok.at) c.deref.ensures.value (subst (λ (q : Key). StandsAt key_cmp row_key c.deref.result.now q c.in-Ok.at) named c.in-Ok.ensures) in
    let made : container_in kept.digest rows (Some (boot_of c.renewed.result)) ≡ renewed (container_in kept.digest rows boot) key =
    ap (λ (b : BootMap). container_in kept.digest rows (Some b)) c.renewed.ensures
    ∙ renewed_by_row rows c.self.invariant.order key c.in-Ok.at stands c.index-row.result.now c.index-row.ensures kept.digest boot (boot_of c.in-Some.copy) (ap (option_map boot_of) (sym c.in-Some.ensures.value)) in
    record {
      order = c.self.invariant.order;
      valid = subst IsValidContainer (sym made) (IsValidContainer-renewed (container_in kept.digest rows boot) c.self.invariant.valid key (subst (λ (of : Container). IsRenewable of.boot key) (sym c.self.view_is) c.requires));
    }

pub returns-in-Some-clause-boot : goal.returns-in-Some-clause-boot
returns-in-Some-clause-boot c =
    let kept = c.self.inside in
    let rows : List FlagState = kept.rows.items in
    let key : Key = c.args.key.now in
    let boot : Option BootMap = option_map boot_of kept.boot in
    let named : (c.package.result.now, c.flag.result.now) ≡ key = λ i. (c.package.ensures i, c.flag.ensures i) in
    let stands : StandsAt key_cmp row_key rows key c.in-Ok.at =
    subst (λ (list : List FlagState). StandsAt key_cmp row_key list key c.in-Ok.at) c.deref.ensures.value (subst (λ (q : Key). StandsAt key_cmp row_key c.deref.result.now q c.in-Ok.at) named c.in-Ok.ensures) in
    let made : container_in kept.digest rows (Some (boot_of c.renewed.result)) ≡ renewed c.args.self.now key =
    ap (λ (b : BootMap). container_in kept.digest rows (Some b)) c.renewed.ensures
    ∙ renewed_by_row rows c.self.invariant.order key c.in-Ok.at stands c.index-row.result.now c.index-row.ensures kept.digest boot (boot_of c.in-Some.copy) (ap (option_map boot_of) (sym c.in-Some.ensures.value))
    ∙ ap (λ (of : Container). renewed of key) c.self.view_is in
    elim c.match-self.branch [ in-Some-1 w ↦ w.self-is ∙ made | in-None-1 w ↦ w.self-is ∙ made ]

pub returns-in-Some-clause-valid : goal.returns-in-Some-clause-valid
returns-in-Some-clause-valid c =
    subst IsValidContainer (sym (returns-in-Some-clause-boot c)) (IsValidContainer-renewed c.args.self.now (subst IsValidContainer c.self.view_is c.self.invariant.valid) c.args.key.now c.requires)

pub returns-in_default-clause-boot : goal.returns-in_default-clause-boot
returns-in_default-clause-boot c =
    let rows : List FlagState = c.self.inside.rows.items in
    let key : Key = c.args.key.now in
    let named : (c.package.result.now, c.flag.result.now) ≡ key = λ i. (c.package.ensures i, c.flag.ensures i) in
    let gap : WouldStandAt key_cmp row_key rows key c.in_default.field-0 =
    subst (λ (list : List FlagState). WouldStandAt key_cmp row_key list key c.in_default.field-0) c.deref.ensures.value (subst (λ (q : Key). WouldStandAt key_cmp row_key c.deref.result.now q c.in_default.field-0) named c.in_default.ensures) in
    renewed_absent c.args.self.now key (ap (λ (of : Container). get of.release key) (sym c.self.view_is) ∙ release_absent rows key c.in_default.field-0 gap)
