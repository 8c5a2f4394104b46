use Rattle.std.proofs.Common.{◌≡◌, None, Ok, sym, ap, subst, ◌∙◌, option_map, set}
use Rattle.acfg_base.specs.Places.{StandsAt}
use Rattle.acfg_base.specs.Release.{key_cmp}
use Rattle.acfg_model.specs.FlagStates.{row_key, release_in, local_in, container_in, IsLawful}
use Rattle.acfg_model.specs.Step.{change_refusal, changed_key, with_change}
use Rattle.acfg_model.specs.Views.{boot_of}
use Rattle.acfg_model.proofs.Tabled.{change-makes}
use Rattle.acfg_model.proofs.containers.Container.change.Goals as goal

pub invariant_of-self : goal.invariant_of-self
invariant_of-self c =
    let kept = c.self.inside in
    let change = c.args.change.now in
    let boot = option_map boot_of kept.boot in
    let place = subst (λ rows. StandsAt key_cmp row_key rows (changed_key change) c.in-Ok.at × (change_refusal (release_in rows) (local_in rows) change ≡ None)) c.deref.ensures.value c.in-Ok.ensures in
    let made = change-makes kept.digest kept.rows.items boot c.self.invariant change c.in-Ok.at place.0 c.index_mut-row.result.now c.index_mut-row.ensures.value place.1 in
    subst (λ row. IsLawful (set kept.rows.items c.in-Ok.at row) (container_in kept.digest (set kept.rows.items c.in-Ok.at row) boot)) (sym c.take.ensures) made.lawful

pub returns-in-Ok : goal.returns-in-Ok
returns-in-Ok c =
    let kept = c.self.inside in
    let change = c.args.change.now in
    let boot = option_map boot_of kept.boot in
    let place = subst (λ rows. StandsAt key_cmp row_key rows (changed_key change) c.in-Ok.at × (change_refusal (release_in rows) (local_in rows) change ≡ None)) c.deref.ensures.value c.in-Ok.ensures in
    let made = change-makes kept.digest kept.rows.items boot c.self.invariant change c.in-Ok.at place.0 c.index_mut-row.result.now c.index_mut-row.ensures.value place.1 in
    let taken = sym c.take.ensures in
    record {
      outcome = ap (λ t. with_change t change) (sym c.self.view_is) ∙ made.comes ∙ ap (λ row. Ok (container_in kept.digest (set kept.rows.items c.in-Ok.at row) boot)) taken;
      valid = (subst (λ row. IsLawful (set kept.rows.items c.in-Ok.at row) (container_in kept.digest (set kept.rows.items c.in-Ok.at row) boot)) taken made.lawful).valid;
    }
