use Rattle.std.proofs.Common.{subst}
use Rattle.std.proofs.lemmas.Result.{IfOk-weaker}
use Rattle.acfg_base.specs.Places.{StandsAt, WouldStandAt}
use Rattle.acfg_base.specs.Release.{Key, key_cmp}
use Rattle.acfg_model.specs.FlagStates.{row_key}
use Rattle.acfg_store.specs.Renewing.{IsCopyWith}
use Rattle.acfg_store.proofs.CopyRenewed.{renewed_by, unreleased}
use Rattle.acfg_store.proofs.renewing.renew_copy.Goals as goal

pub unreachable-requires : goal.unreachable-requires
unreachable-requires c =
    let rows = c.rows-rows.ensures in
    let gap : WouldStandAt key_cmp row_key c.rows-rows.result.now c.args.key.now c.in-Err.field-0 =
    subst (λ (key : Key). WouldStandAt key_cmp row_key c.rows-rows.result.now key c.in-Err.field-0) (λ i. (c.package.ensures i, c.flag.ensures i)) c.in-Err.ensures in
    unreleased c.args.container.now c.rows-rows.result.now rows.release c.args.key.now c.in-Err.field-0 gap c.requires.released

pub returns : goal.returns
returns c =
    let rows = c.rows-rows.ensures in
    let stands : StandsAt key_cmp row_key c.rows-rows.result.now c.args.key.now c.in-Ok.at =
    subst (λ (key : Key). StandsAt key_cmp row_key c.rows-rows.result.now key c.in-Ok.at) (λ i. (c.package.ensures i, c.flag.ensures i)) c.in-Ok.ensures in
    IfOk-weaker c.renew_flag.result _ _ (λ made renews name boot copy goes.
    subst (IsCopyWith made name)
    (renewed_by c.args.container.now c.rows-rows.result.now rows.order (record { release = rows.release; server = rows.server; local = rows.local }) c.args.key.now c.in-Ok.at stands c.index-rows-at.result c.index-rows-at.is boot)
    (renews name boot copy goes)) c.renew_flag.ensures
