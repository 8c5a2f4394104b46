use Rattle.std.proofs.Common.{◌≡◌, Some, sym, ap, subst, ◌∙◌, option_map}
use Rattle.acfg_model.specs.State.{BootMap, IsValidContainer}
use Rattle.acfg_model.specs.Views.{boot_of}
use Rattle.acfg_model.specs.Step.{boot_map, booted}
use Rattle.acfg_model.specs.FlagStates.{container_in}
use Rattle.acfg_model.proofs.Valid.{IsValidContainer-booted}
use Rattle.acfg_model.proofs.containers.Container.set_boot.Goals as goal

pub invariant_of-self : goal.invariant_of-self
invariant_of-self c =
    let was = container_in c.self.inside.digest c.self.inside.rows.items (option_map boot_of c.self.inside.boot) in
    let same : boot_of c.args.copy ≡ boot_map was = c.requires ∙ ap boot_map (sym c.self.view_is) in
    record {
      order = c.self.invariant.order;
      valid = subst (λ (boot : BootMap). IsValidContainer (container_in c.self.inside.digest c.self.inside.rows.items (Some boot))) (sym same) (IsValidContainer-booted was c.self.invariant.valid);
    }

pub returns : goal.returns
returns c =
    let was = container_in c.self.inside.digest c.self.inside.rows.items (option_map boot_of c.self.inside.boot) in
    let same : boot_of c.args.copy ≡ boot_map was = c.requires ∙ ap boot_map (sym c.self.view_is) in
    record {
      boot = ap (λ (boot : BootMap). container_in c.self.inside.digest c.self.inside.rows.items (Some boot)) same ∙ ap booted c.self.view_is;
      valid = subst (λ (boot : BootMap). IsValidContainer (container_in c.self.inside.digest c.self.inside.rows.items (Some boot))) (sym same) (IsValidContainer-booted was c.self.invariant.valid);
    }
