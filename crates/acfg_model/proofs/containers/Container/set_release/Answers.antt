use Rattle.std.proofs.Common.{◌≡◌, map, sym, ap, subst, ◌∙◌, option_map}
use Rattle.acfg_base.specs.Release.{entries_of}
use Rattle.acfg_model.specs.Bodies.{carried_row}
use Rattle.acfg_model.specs.Views.{boot_of}
use Rattle.acfg_model.specs.Step.{with_release}
use Rattle.acfg_model.specs.FlagStates.{container_in, IsLawful}
use Rattle.acfg_model.proofs.Carried.{rows-with_release, lawful-with_release}
use Rattle.acfg_model.proofs.containers.Container.set_release.Goals as goal

pub invariant_of-self : goal.invariant_of-self
invariant_of-self c =
    let made : c.in_ok-rows.rows.items ≡ map (carried_row c.self.inside.rows.items) (entries_of c.args.release) = c.in_ok-rows.ensures ∙ ap (λ old. map (carried_row old) (entries_of c.args.release)) c.deref.ensures.value in
    subst (λ rows. IsLawful rows (container_in c.args.digest rows (option_map boot_of c.self.inside.boot))) (sym made) (lawful-with_release c.self.inside.rows.items c.self.invariant.order c.args.release c.args.digest c.self.inside.digest (option_map boot_of c.self.inside.boot) c.is_digest.ensures c.requires c.self.invariant.valid)

pub returns-clause-ok : goal.returns-clause-ok
returns-clause-ok c =
    let made : c.in_ok-rows.rows.items ≡ map (carried_row c.self.inside.rows.items) (entries_of c.args.release) = c.in_ok-rows.ensures ∙ ap (λ old. map (carried_row old) (entries_of c.args.release)) c.deref.ensures.value in
    ap (λ rows. container_in c.args.digest rows (option_map boot_of c.self.inside.boot)) made
    ∙ rows-with_release c.self.inside.rows.items c.self.invariant.order c.args.release c.args.digest c.self.inside.digest (option_map boot_of c.self.inside.boot)
    ∙ ap (λ t. with_release t c.args.digest c.args.release) c.self.view_is

pub returns-clause-valid : goal.returns-clause-valid
returns-clause-valid c =
    let made : c.in_ok-rows.rows.items ≡ map (carried_row c.self.inside.rows.items) (entries_of c.args.release) = c.in_ok-rows.ensures ∙ ap (λ old. map (carried_row old) (entries_of c.args.release)) c.deref.ensures.value in
    (subst (λ rows. IsLawful rows (container_in c.args.digest rows (option_map boot_of c.self.inside.boot))) (sym made) (lawful-with_release c.self.inside.rows.items c.self.invariant.order c.args.release c.args.digest c.self.inside.digest (option_map boot_of c.self.inside.boot) c.is_digest.ensures c.requires c.self.invariant.valid)).valid
