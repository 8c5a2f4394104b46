use Rattle.std.proofs.Common.{sym, ap, subst, ◌∙◌, Some, option_map}
use Rattle.std.specs.FinMap.{get}
use Rattle.acfg_base.specs.Release.{Key, key_cmp, key_of, facts_of}
use Rattle.acfg_base.specs.Places.{StandsAt, WouldStandAt}
use Rattle.acfg_base.proofs.Rows.{get-map_of, row_at-stands, row_at-gap}
use Rattle.acfg_base.proofs.Keys.{key_total}
use Rattle.acfg_base.proofs.releases.Release.get.Goals as goal

pub returns-in-Ok : goal.returns-in-Ok
returns-in-Ok c =
    let key : Key = (c.args.package.now, c.args.flag.now) in
    let at = subst (λ es. StandsAt key_cmp key_of es key c.in-Ok.at) c.deref.ensures.value c.in-Ok.ensures in
    let found = row_at-stands key_total key_of _ c.self.invariant.order key c.in-Ok.at c.index-entry.result.now at in
    ap (λ e. Some (facts_of e)) c.index-entry.ensures ∙ ap (option_map facts_of) (sym found) ∙ sym (get-map_of key_total key_of facts_of _ key) ∙ ap (λ m. get m key) c.self.view_is

pub returns-in-Err : goal.returns-in-Err
returns-in-Err c =
    let key : Key = (c.args.package.now, c.args.flag.now) in
    let gap = subst (λ es. WouldStandAt key_cmp key_of es key c.in-Err.field-0) c.deref.ensures.value c.in-Err.ensures in
    ap (option_map facts_of) (sym (row_at-gap key_total key_of _ key _ gap)) ∙ sym (get-map_of key_total key_of facts_of _ key) ∙ ap (λ m. get m key) c.self.view_is
