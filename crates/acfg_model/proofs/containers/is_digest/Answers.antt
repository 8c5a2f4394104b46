use Rattle.std.proofs.Common.{◌<◌, subst}
use Rattle.std.proofs.lemmas.List.{get_or_default}
use Rattle.acfg_model.proofs.containers.is_digest.Goals as goal

pub returns : goal.returns
returns c = record {
  size = c.told-digest;
  bytes = λ k d within. subst (λ byte. byte < 256) (get_or_default c.args.digest.now k 0 d within) (c.fits-digest k);
}
