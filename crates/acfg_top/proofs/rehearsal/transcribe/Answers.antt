use Rattle.std.proofs.Common.{[], refl}
use Rattle.acfg_top.specs.Outcome.{Done}
use Rattle.acfg_top.proofs.Telling.{settled_too}
use Rattle.acfg_top.proofs.rehearsal.transcribe.Goals as goal

pub returns-in-Ok-clause-told : goal.returns-in-Ok-clause-told
returns-in-Ok-clause-told g c = λ tells.
    let told = c.in-Ok.ensures.told tells in
    let says = c.in-Ok.ensures.says in
    record {
      outcome = Done told.0 [];
      given = (told.0, told.1, refl);
      is = refl;
      done = record { said = told.2; files = says.files; settled = settled_too _ _ says.names says.pending; spared = tt };
    }
