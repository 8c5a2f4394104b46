use Rattle.std.proofs.Common.{sym, ap, subst, ◌∙◌}
use Rattle.acfg_base.specs.Maps.{map_values}
use Rattle.acfg_model.specs.declared.requests.Reply.TheVariants.{Fine}
use Rattle.acfg_model.specs.State.{State}
use Rattle.acfg_model.specs.Step.{booted}
use Rattle.acfg_model.specs.Machines.{state_of, IsKept}
use Rattle.acfg_model.proofs.Kept.{pair_of, IsKept-booted, state_booted}
use Rattle.acfg_model.proofs.machines.Machine.boot.Goals as goal

pub invariant_of-self : goal.invariant_of-self
invariant_of-self c = subst IsKept (sym c.set_boot_copies.ensures) (IsKept-booted c.self.inside.containers.items c.self.invariant)

pub returns-clause-ok : goal.returns-clause-ok
returns-clause-ok c =
    ap (λ (s : State). pair_of (map_values (λ name. booted) s) Fine) (sym c.self.view_is)
    ∙ ap (λ s. pair_of s Fine) (sym (ap state_of c.set_boot_copies.ensures ∙ state_booted c.self.inside.containers.items c.self.invariant))
