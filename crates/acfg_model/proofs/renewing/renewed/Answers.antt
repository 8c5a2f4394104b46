use Rattle.std.proofs.Common.{◌≡◌, List, set, sym, ap, subst, ◌∙◌}
use Rattle.acfg_base.specs.Places.{AreInOrder, StandsAt, WouldStandAt}
use Rattle.acfg_base.specs.Release.{Key, key_cmp}
use Rattle.acfg_model.specs.declared.views.Booted.{Booted}
use Rattle.acfg_model.specs.FlagStates.{boot_renewed}
use Rattle.acfg_model.specs.Views.{boot_of, booted_key}
use Rattle.acfg_model.proofs.Renewals.{boot_renewed_absent, boot_renewed_at, order_renewed}
use Rattle.acfg_model.proofs.renewing.renewed.Goals as goal

pub from_sorted-requires : goal.from_sorted-requires
from_sorted-requires c =
    let list : List Booted = c.into_vec-flags.result.items in
    let key : Key = c.args.key.now in
    let named : (c.package.result.now, c.flag.result.now) ≡ key = λ i. (c.package.ensures i, c.flag.ensures i) in
    let stands : StandsAt key_cmp booted_key list key c.in-Ok.at =
    subst (λ rows. StandsAt key_cmp booted_key rows key c.in-Ok.at) c.deref.ensures.value (subst (λ (q : Key). StandsAt key_cmp booted_key c.deref.result.now q c.in-Ok.at) named c.in-Ok.ensures) in
    subst (λ (was : Booted). AreInOrder key_cmp booted_key (set list c.in-Ok.at was)) (sym c.renew.ensures)
    (order_renewed list c.into_vec-flags.ensures.order key c.args.row.now c.in-Ok.at stands c.index_mut-was.result.now c.index_mut-was.ensures.value)

pub returns-in-Ok : goal.returns-in-Ok
returns-in-Ok c =
    let list : List Booted = c.into_vec-flags.result.items in
    let key : Key = c.args.key.now in
    let named : (c.package.result.now, c.flag.result.now) ≡ key = λ i. (c.package.ensures i, c.flag.ensures i) in
    let stands : StandsAt key_cmp booted_key list key c.in-Ok.at =
    subst (λ rows. StandsAt key_cmp booted_key rows key c.in-Ok.at) c.deref.ensures.value (subst (λ (q : Key). StandsAt key_cmp booted_key c.deref.result.now q c.in-Ok.at) named c.in-Ok.ensures) in
    ap boot_of (c.from_sorted.ensures ∙ ap (set list c.in-Ok.at) c.renew.ensures)
    ∙ boot_renewed_at list c.into_vec-flags.ensures.order key c.args.row.now c.in-Ok.at stands c.index_mut-was.result.now c.index_mut-was.ensures.value
    ∙ ap (λ flags. boot_renewed c.args.row.now key (boot_of flags)) c.into_vec-flags.ensures.all

pub returns-in-Err : goal.returns-in-Err
returns-in-Err c =
    let list : List Booted = c.into_vec-flags.result.items in
    let key : Key = c.args.key.now in
    let named : (c.package.result.now, c.flag.result.now) ≡ key = λ i. (c.package.ensures i, c.flag.ensures i) in
    let gap : WouldStandAt key_cmp booted_key list key c.in-Err.field-0 =
    subst (λ rows. WouldStandAt key_cmp booted_key rows key c.in-Err.field-0) c.deref.ensures.value (subst (λ (q : Key). WouldStandAt key_cmp booted_key c.deref.result.now q c.in-Err.field-0) named c.in-Err.ensures) in
    ap boot_of c.from_sorted-in-Err.ensures
    ∙ boot_renewed_absent list c.into_vec-flags.ensures.order key c.args.row.now c.in-Err.field-0 gap
    ∙ ap (λ flags. boot_renewed c.args.row.now key (boot_of flags)) c.into_vec-flags.ensures.all
