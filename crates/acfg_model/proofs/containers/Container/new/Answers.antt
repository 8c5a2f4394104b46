use Rattle.std.proofs.Common.{None, sym, ap, subst, ◌∙◌}
use Rattle.acfg_model.specs.FlagStates.{container_in, IsLawful}
use Rattle.acfg_model.proofs.Carried.{rows-fresh, lawful-fresh}
use Rattle.acfg_model.proofs.containers.Container.new.Goals as goal

pub invariant_of-result : goal.invariant_of-result
invariant_of-result c = subst (λ rows. IsLawful rows (container_in c.args.digest rows None)) (sym c.in_ok-rows.ensures) (lawful-fresh c.args.release c.args.digest c.is_digest.ensures c.requires)

pub returns : goal.returns
returns c = record {
  made = ap (λ rows. container_in c.args.digest rows None) c.in_ok-rows.ensures ∙ rows-fresh c.args.release c.args.digest;
  valid = (subst (λ rows. IsLawful rows (container_in c.args.digest rows None)) (sym c.in_ok-rows.ensures) (lawful-fresh c.args.release c.args.digest c.is_digest.ensures c.requires)).valid;
}
