use Rattle.std.proofs.Common.{◌≡◌, List, Some, None, option_map, ap, subst, ◌∙◌}
use Rattle.std.specs.FinMap.{get}
use Rattle.acfg_model.specs.declared.containers.FlagState.{FlagState}
use Rattle.acfg_model.specs.State.{Container, IsValidContainer}
use Rattle.acfg_model.specs.FlagStates.{container_in, local_in, release_in}
use Rattle.acfg_model.specs.Step.{change_refusal, entry_refusal, now_refusal}
use Rattle.acfg_model.specs.Views.{boot_of}
use Rattle.acfg_model.proofs.Renewals.{boot_refuses, entry_refuses}
use Rattle.acfg_model.proofs.containers.Container.refused_now.Goals as goal

pub returns-in-Ok : goal.returns-in-Ok
returns-in-Ok c =
    let kept = c.self.inside in
    let change = c.args.change.now in
    let goes : change_refusal (release_in kept.rows.items) (local_in kept.rows.items) change ≡ None =
    subst (λ (rows : List FlagState). change_refusal (release_in rows) (local_in rows) change ≡ None) c.deref.ensures.value c.in-Ok.ensures.1 in
    record {
      refusal = c.entry_refusal.ensures ∙ ap (λ key. entry_refusal (get (boot_of c.in-Some.copy) key)) c.key.ensures
          ∙ entry_refuses (container_in kept.digest kept.rows.items (option_map boot_of kept.boot)) change (boot_of c.in-Some.copy) (ap (option_map boot_of) c.in-Some.is) goes
          ∙ ap (λ (of : Container). now_refusal of change) c.self.view_is;
      valid = subst IsValidContainer c.self.view_is c.self.invariant.valid;
    }

pub returns-in-Err : goal.returns-in-Err
returns-in-Err c =
    let kept = c.self.inside in
    let change = c.args.change.now in
    let why : change_refusal (release_in kept.rows.items) (local_in kept.rows.items) change ≡ Some c.in-Err.refusal =
    subst (λ (rows : List FlagState). change_refusal (release_in rows) (local_in rows) change ≡ Some c.in-Err.refusal) c.deref.ensures.value c.in-Err.ensures in
    record {
      refusal = boot_refuses (container_in kept.digest kept.rows.items (option_map boot_of kept.boot)) change (boot_of c.in-Some.copy) (ap (option_map boot_of) c.in-Some.is) c.in-Err.refusal why
          ∙ ap (λ (of : Container). now_refusal of change) c.self.view_is;
      valid = subst IsValidContainer c.self.view_is c.self.invariant.valid;
    }
