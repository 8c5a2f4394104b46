use Rattle.acfg_daemon.proofs.Numbered.{numbered}
use Rattle.acfg_daemon.proofs.rehearsal.serve.Goals as goal

pub returns-clause-numbered : goal.returns-clause-numbered
returns-clause-numbered g c = numbered c.args.machine.now c.in-Some.request c.in_ok-loaded.loaded c.step.new.self c.in_ok-step.field-0 c.in_ok-step.ensures.ok
