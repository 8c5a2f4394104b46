use Rattle.std.proofs.Common.{◌≡◌, map, ap, ◌∙◌, take_all}
use Rattle.acfg_model.specs.Views.{state_from}
use Rattle.acfg_model.proofs.Shown.{shown_pair, named_pair, states-in_order, state_from-shown}
use Rattle.acfg_model.proofs.machines.shown.Goals as goal

pub from_sorted-requires : goal.from_sorted-requires
from_sorted-requires c =
    let all : map shown_pair c.loop-named.states.items ≡ map named_pair c.args.containers.now = c.loop-named.invariant ∙ ap (map named_pair) (take_all c.loop-named.named-index _ c.loop-named-test.false) in
    states-in_order _ _ all c.requires

pub returns : goal.returns
returns c =
    let all : map shown_pair c.loop-named.states.items ≡ map named_pair c.args.containers.now = c.loop-named.invariant ∙ ap (map named_pair) (take_all c.loop-named.named-index _ c.loop-named-test.false) in
    ap state_from c.from_sorted.ensures ∙ state_from-shown _ _ all
