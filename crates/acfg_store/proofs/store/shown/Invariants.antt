use Rattle.std.proofs.Common.{◌≡◌, map, take}
use Rattle.acfg_model.proofs.Shown.{shown_pair}
use Rattle.acfg_store.proofs.Showing.{kept_pair}
use Rattle.acfg_store.proofs.store.shown.Given as goal

abbrev pub invariant-loop-kept : goal.invariant-loop-kept
invariant-loop-kept l = map shown_pair l.states.items ≡ map kept_pair (take l.kept-index l.containers)
