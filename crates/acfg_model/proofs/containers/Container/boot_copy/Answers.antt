use Rattle.std.proofs.Common.{◌≡◌, map, sym, ap, subst, ◌∙◌, take_all, option_map}
use Rattle.acfg_base.specs.Places.{AreInOrder}
use Rattle.acfg_base.specs.Release.{key_cmp}
use Rattle.acfg_model.specs.Bodies.{booted_row}
use Rattle.acfg_model.specs.Views.{booted_key, boot_of}
use Rattle.acfg_model.specs.Step.{boot_map}
use Rattle.acfg_model.proofs.Carried.{booted-in_order, boot_of-rows}
use Rattle.acfg_model.proofs.containers.Container.boot_copy.Goals as goal

pub from_sorted-requires : goal.from_sorted-requires
from_sorted-requires c =
    let all : c.loop-row.flags.items ≡ map booted_row c.self.inside.rows.items = c.loop-row.invariant ∙ ap (map booted_row) (take_all c.loop-row.row-index _ c.loop-row-test.false ∙ c.deref-row-items.ensures.value) in
    subst (AreInOrder key_cmp booted_key) (sym all) (booted-in_order c.self.inside.digest c.self.inside.rows.items (option_map boot_of c.self.inside.boot) c.self.invariant.order)

pub returns : goal.returns
returns c =
    let all : c.loop-row.flags.items ≡ map booted_row c.self.inside.rows.items = c.loop-row.invariant ∙ ap (map booted_row) (take_all c.loop-row.row-index _ c.loop-row-test.false ∙ c.deref-row-items.ensures.value) in
    ap boot_of (c.from_sorted.ensures ∙ all) ∙ boot_of-rows c.self.inside.digest c.self.inside.rows.items (option_map boot_of c.self.inside.boot) c.self.invariant.order ∙ ap boot_map c.self.view_is
