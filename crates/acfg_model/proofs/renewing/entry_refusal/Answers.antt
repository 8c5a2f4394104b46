use Rattle.std.proofs.Common.{◌≡◌, List, sym, ap, subst, ◌∙◌, ⊎_elim}
use Rattle.std.specs.FinMap.{get}
use Rattle.acfg_base.specs.Places.{StandsAt, WouldStandAt}
use Rattle.acfg_base.specs.Release.{Key, key_cmp}
use Rattle.acfg_model.specs.declared.views.Booted.{Booted}
use Rattle.acfg_model.specs.Step.{entry_refusal}
use Rattle.acfg_model.specs.Views.{boot_of, booted_key}
use Rattle.acfg_model.proofs.Renewals.{entry_absent, refusal_of, refusal_there}
use Rattle.acfg_model.proofs.renewing.entry_refusal.Goals as goal

pub returns-in-ReadWrite : goal.returns-in-ReadWrite
returns-in-ReadWrite c =
    let flags : List Booted = c.as_slice-flags.result.now in
    let named : (c.package.result.now, c.flag.result.now) ≡ c.args.key.now = λ i. (c.package.ensures i, c.flag.ensures i) in
    let stands : StandsAt key_cmp booted_key flags c.args.key.now c.in-Ok.at = subst (λ (q : Key). StandsAt key_cmp booted_key flags q c.in-Ok.at) named c.in-Ok.ensures in
    sym (ap (λ (list : List Booted). entry_refusal (get (boot_of list) c.args.key.now)) (sym c.as_slice-flags.ensures.all)
    ∙ refusal_there flags c.as_slice-flags.ensures.order c.args.key.now c.in-Ok.at stands c.index-flags-at.result c.index-flags-at.is ∙ ap refusal_of c.in-ReadWrite.is)

pub returns-in-ReadOnly : goal.returns-in-ReadOnly
returns-in-ReadOnly c =
    let flags : List Booted = c.as_slice-flags.result.now in
    let named : (c.package.result.now, c.flag.result.now) ≡ c.args.key.now = λ i. (c.package.ensures i, c.flag.ensures i) in
    let stands : StandsAt key_cmp booted_key flags c.args.key.now c.in-Ok.at = subst (λ (q : Key). StandsAt key_cmp booted_key flags q c.in-Ok.at) named c.in-Ok.ensures in
    sym (ap (λ (list : List Booted). entry_refusal (get (boot_of list) c.args.key.now)) (sym c.as_slice-flags.ensures.all)
    ∙ refusal_there flags c.as_slice-flags.ensures.order c.args.key.now c.in-Ok.at stands c.index-flags-at.result c.index-flags-at.is ∙ ⊎_elim (ap refusal_of) (ap refusal_of) c.in-ReadOnly.is)

pub returns-in-Err : goal.returns-in-Err
returns-in-Err c =
    let flags : List Booted = c.as_slice-flags.result.now in
    let named : (c.package.result.now, c.flag.result.now) ≡ c.args.key.now = λ i. (c.package.ensures i, c.flag.ensures i) in
    let gap : WouldStandAt key_cmp booted_key flags c.args.key.now c.in-Err.field-0 = subst (λ (q : Key). WouldStandAt key_cmp booted_key flags q c.in-Err.field-0) named c.in-Err.ensures in
    sym (ap (λ (list : List Booted). entry_refusal (get (boot_of list) c.args.key.now)) (sym c.as_slice-flags.ensures.all)
    ∙ ap entry_refusal (entry_absent flags c.as_slice-flags.ensures.order c.args.key.now c.in-Err.field-0 gap))
