use Rattle.std.proofs.Common.{◌≡◌, map, sym, ap, subst, ◌∙◌, take_all}
use Rattle.acfg_base.specs.Places.{AreInOrder}
use Rattle.acfg_base.specs.Release.{key_cmp, key_of, release_of}
use Rattle.acfg_model.proofs.Shown.{entries-in_order, release_of-entries}
use Rattle.acfg_model.proofs.containers.release.Goals as goal
use Rattle.acfg_model.specs.Bodies.{entry_in}

pub from_sorted-requires : goal.from_sorted-requires
from_sorted-requires c =
    let all : c.loop-row.entries.items ≡ map entry_in c.args.rows.now = c.loop-row.invariant ∙ ap (map entry_in) (take_all c.loop-row.row-index _ c.loop-row-test.false) in
    subst (AreInOrder key_cmp key_of) (sym all) (entries-in_order c.args.rows.now c.requires)

pub returns : goal.returns
returns c =
    let all : c.loop-row.entries.items ≡ map entry_in c.args.rows.now = c.loop-row.invariant ∙ ap (map entry_in) (take_all c.loop-row.row-index _ c.loop-row-test.false) in
    c.from_sorted.ensures ∙ ap release_of all ∙ release_of-entries c.args.rows.now
