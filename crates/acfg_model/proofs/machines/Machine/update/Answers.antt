use Rattle.std.proofs.Common.{subst}
use Rattle.acfg_model.specs.Step.{Fits}
use Rattle.acfg_model.proofs.machines.Machine.update.Goals as goal

pub update_release-requires : goal.update_release-requires
update_release-requires c = subst Fits c.in-Some-Release.field-0-is (c.requires c.in-Some-Release.field-0 c.in-Some-Release.is)
