use Rattle.std.proofs.Common.{◌≡◌, map, ap, ◌∙◌, take_all}
use Rattle.acfg_model.specs.Views.{state_from}
use Rattle.acfg_model.proofs.Shown.{shown_pair}
use Rattle.acfg_store.specs.Opening.{entries_of}
use Rattle.acfg_store.proofs.Opened.{entries_in_order}
use Rattle.acfg_store.proofs.Showing.{kept_pair, state_shown, states_in_order}
use Rattle.acfg_store.proofs.store.shown.Goals as goal

pub from_sorted-requires : goal.from_sorted-requires
from_sorted-requires c =
    let all : map shown_pair c.loop-kept.states.items ≡ map kept_pair c.args.containers.now = c.loop-kept.invariant ∙ ap (map kept_pair) (take_all c.loop-kept.kept-index _ c.loop-kept-test.false) in
    states_in_order _ _ all (entries_in_order (entries_of c.args.containers.now) c.requires.listed c.requires.valid)

pub returns : goal.returns
returns c =
    let all : map shown_pair c.loop-kept.states.items ≡ map kept_pair c.args.containers.now = c.loop-kept.invariant ∙ ap (map kept_pair) (take_all c.loop-kept.kept-index _ c.loop-kept-test.false) in
    ap state_from c.from_sorted.ensures ∙ state_shown _ _ all
