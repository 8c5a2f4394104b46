use Rattle.std.proofs.Common.{ℕ, List, subst, sym}
use Rattle.acfg_base.specs.Places.{AreInOrder, StandsAt, WouldStandAt}
use Rattle.acfg_model.specs.State.{name_cmp}
use Rattle.acfg_store.specs.declared.containers.Kept.{Kept}
use Rattle.acfg_store.specs.Kept.{kept_name}
use Rattle.acfg_store.proofs.OneChanged.{kept_order}
use Rattle.acfg_store.proofs.accepting.update.Goals as goal

pub place_of-requires : goal.place_of-requires
place_of-requires g c = subst (AreInOrder name_cmp kept_name) (sym c.deref.ensures.value) (kept_order c.args.kept.items c.requires.kept)

pub update_there-requires-clause-stands : goal.update_there-requires-clause-stands
update_there-requires-clause-stands g c =
    subst (λ (both : List Kept × List ℕ). StandsAt name_cmp kept_name both.0 both.1 c.in-Ok.at) (λ i. (c.deref.ensures.value i, c.as_str.ensures.text i)) c.in-Ok.ensures

pub update_absent-requires-clause-gap : goal.update_absent-requires-clause-gap
update_absent-requires-clause-gap g c =
    subst (λ (both : List Kept × List ℕ). WouldStandAt name_cmp kept_name both.0 both.1 c.in-Err.at) (λ i. (c.deref.ensures.value i, c.as_str.ensures.text i)) c.in-Err.ensures
