use Rattle.std.proofs.Common.{List, Some, option_map, sym, ap, subst, ◌∙◌}
use Rattle.std.proofs.lemmas.Result.{IfOk-weaker}
use Rattle.std.specs.FinMap.{get}
use Rattle.acfg_base.specs.Places.{AreInOrder, StandsAt, WouldStandAt}
use Rattle.acfg_base.specs.Release.{Key}
use Rattle.acfg_model.specs.declared.requests.Reply.TheVariants.{Refused}
use Rattle.acfg_model.specs.State.{Container, name_cmp}
use Rattle.acfg_model.specs.Step.{boot_value_in, value_reply}
use Rattle.acfg_store.specs.Applied.{state_in}
use Rattle.acfg_store.specs.declared.containers.Kept.{Kept}
use Rattle.acfg_store.specs.Kept.{IsCopied, kept_name}
use Rattle.acfg_store.specs.Store.{StoreView}
use Rattle.acfg_store.proofs.OneChanged.{kept_absent, kept_at, kept_order}
use Rattle.acfg_store.proofs.store.Store.get.Goals as goal

pub place_of-requires : goal.place_of-requires
place_of-requires c = subst (AreInOrder name_cmp kept_name) (sym c.deref.ensures.value) (kept_order c.self.inside.containers.items c.self.invariant)

pub reply_from-requires : goal.reply_from-requires
reply_from-requires c =
    let stands = subst (λ (list : List Kept). StandsAt name_cmp kept_name list c.args.name.now c.in-Ok.at) c.deref.ensures.value c.in-Ok.ensures in
    subst IsCopied (sym c.index-one.ensures) (c.self.invariant.copied c.in-Ok.at c.index-one.result.now stands.within)

pub returns-in-Ok : goal.returns-in-Ok
returns-in-Ok c =
    let key : Key = (c.args.package.now, c.args.flag.now) in
    let stands = subst (λ (list : List Kept). StandsAt name_cmp kept_name list c.args.name.now c.in-Ok.at) c.deref.ensures.value c.in-Ok.ensures in
    let there = kept_at c.self.inside.containers.items c.self.invariant c.args.name.now c.in-Ok.at stands c.index-one.result.now c.index-one.ensures in
    IfOk-weaker c.reply_from.result _ _ (λ reply is.
    is ∙ ap (λ (key : Key). value_reply (Some (boot_value_in c.index-one.result.now.container.boot key))) c.new-key.ensures
    ∙ ap (λ t. value_reply (option_map (λ (d : Container). boot_value_in d.boot key) t)) (sym there ∙ ap (λ (s : StoreView). get (state_in s) c.args.name.now) c.self.view_is)) c.reply_from.ensures

pub returns-in-Err : goal.returns-in-Err
returns-in-Err c =
    let key : Key = (c.args.package.now, c.args.flag.now) in
    let gap = subst (λ (list : List Kept). WouldStandAt name_cmp kept_name list c.args.name.now c.in-Err.field-0) c.deref.ensures.value c.in-Err.ensures in
    ap Refused c.number.ensures
    ∙ ap (λ t. value_reply (option_map (λ (d : Container). boot_value_in d.boot key) t)) (sym (kept_absent c.self.inside.containers.items c.args.name.now c.in-Err.field-0 gap) ∙ ap (λ (s : StoreView). get (state_in s) c.args.name.now) c.self.view_is)
