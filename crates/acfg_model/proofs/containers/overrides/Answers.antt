use Rattle.std.proofs.Common.{◌≡◌, Bool, List, [], ◌∷◌, ◌++◌, take, Option, option_map, vec_items, sym, ap, ap₂, subst, ◌∙◌, take_all, append-nil}
use Rattle.std.specs.List.{cons_option}
use Rattle.acfg_base.specs.Places.{AreInOrder}
use Rattle.acfg_base.specs.Release.{key_cmp}
use Rattle.acfg_model.specs.Bodies.{override_row}
use Rattle.acfg_model.specs.declared.views.Override.{Override}
use Rattle.acfg_model.specs.Views.{override_key, overrides_of}
use Rattle.acfg_model.proofs.Shown.{listed, listed-more, overrides-in_order, overrides_of-listed}
use Rattle.acfg_model.proofs.containers.overrides.Goals as goal
use Rattle.acfg_model.proofs.containers.overrides.Goals.{in-Some+in_ok-clone+in_ok-clone-2+in_ok-push, in_default}

pub from_sorted-requires : goal.from_sorted-requires
from_sorted-requires c =
    let all : c.loop-row.list.items ≡ listed c.args.who c.args.rows.now = c.loop-row.invariant ∙ ap (listed c.args.who) (take_all c.loop-row.row-index _ c.loop-row-test.false) in
    subst (AreInOrder key_cmp override_key) (sym all) (overrides-in_order c.args.who c.args.rows.now c.requires)

pub returns : goal.returns
returns c =
    let all : c.loop-row.list.items ≡ listed c.args.who c.args.rows.now = c.loop-row.invariant ∙ ap (listed c.args.who) (take_all c.loop-row.row-index _ c.loop-row-test.false) in
    ap overrides_of (c.from_sorted.ensures ∙ all) ∙ overrides_of-listed c.args.who c.args.rows.now

pub loop-row-preserved : goal.loop-row-preserved
loop-row-preserved c =
    let row = c.row-item.result in
    let more = listed-more c.args.who c.args.rows.now c.loop-row.row-index row c.loop-row-test.true c.row-item.is c.override_in.result c.override_in.ensures in
    let before = listed c.args.who (take c.loop-row.row-index c.args.rows.now) in
    let after : Option Bool → List Override = λ value. before ++ cons_option (option_map (override_row row) value) [] in
    elim c.match-override_in.branch [
      | in-Some+in_ok-clone+in_ok-clone-2+in_ok-push w ↦
          let made : record { «package» = w.in_ok-clone.field-0; flag = w.in_ok-clone-2.field-0; value = w.in-Some.value } ≡ override_row row w.in-Some.value = λ i. record { «package» = w.in_ok-clone.ensures.cases i; flag = w.in_ok-clone-2.ensures.cases i; value = w.in-Some.value } in
          ap vec_items w.list-is ∙ w.in_ok-push.ensures.items ∙ ap₂ (λ list override. list ++ override ∷ []) c.loop-row.invariant made ∙ ap after (sym w.in-Some.is) ∙ sym more
      | in_default w ↦ ap vec_items w.list-is ∙ c.loop-row.invariant ∙ sym (append-nil before) ∙ ap after (sym w.in_default.is) ∙ sym more
    ]
