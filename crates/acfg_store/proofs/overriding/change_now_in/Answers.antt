use Rattle.std.proofs.Common.{List, refl, sym, subst}
use Rattle.acfg_base.specs.Places.{AreInOrder, StandsAt, WouldStandAt}
use Rattle.acfg_model.specs.State.{name_cmp}
use Rattle.acfg_store.specs.declared.containers.Kept.{Kept}
use Rattle.acfg_store.specs.Kept.{kept_name}
use Rattle.acfg_store.proofs.ChangedNow.{absent_now, changed_now, refused_now}
use Rattle.acfg_store.proofs.OneChanged.{kept_order}
use Rattle.acfg_store.proofs.overriding.change_now_in.Goals as goal

pub place_of-requires : goal.place_of-requires
place_of-requires c = subst (AreInOrder name_cmp kept_name) (sym c.deref.ensures.value) (kept_order c.args.containers.now.items c.requires)

pub returns-in-Ok-change_for_now : goal.returns-in-Ok-change_for_now
returns-in-Ok-change_for_now c =
    let stands = subst (λ (list : List Kept). StandsAt name_cmp kept_name list c.args.name.now c.in-Ok.at) c.deref.ensures.value c.in-Ok.ensures in
    changed_now c.args.containers.now.items c.requires c.args.name.now c.args.change.now c.in-Ok.at stands c.index_mut-one.result.now c.index_mut-one.ensures.value c.change_for_now.new.self c.in-Ok-change_for_now.ensures _ refl

pub returns-in-Err-change_for_now : goal.returns-in-Err-change_for_now
returns-in-Err-change_for_now c =
    let stands = subst (λ (list : List Kept). StandsAt name_cmp kept_name list c.args.name.now c.in-Ok.at) c.deref.ensures.value c.in-Ok.ensures in
    refused_now c.args.containers.now.items c.requires c.args.name.now c.args.change.now c.in-Ok.at stands c.index_mut-one.result.now c.index_mut-one.ensures.value c.in-Err-change_for_now.refusal
    c.in-Err-change_for_now.ensures.0 c.change_for_now.new.self c.in-Err-change_for_now.ensures.1 _ refl

pub returns-in-Err : goal.returns-in-Err
returns-in-Err c =
    let gap = subst (λ (list : List Kept). WouldStandAt name_cmp kept_name list c.args.name.now c.in-Err.field-0) c.deref.ensures.value c.in-Err.ensures in
    record { same = refl; step = absent_now c.args.containers.now.items c.requires c.args.name.now c.args.change.now c.in-Err.field-0 gap }
