use Rattle.acfg_memdev.proofs.Logs.{account_moves}
use Rattle.acfg_memdev.proofs.device.MemDevice.call.Goals as goal

pub returns-clause-account : goal.returns-clause-account
returns-clause-account c = account_moves c.args.call c.args.self.now c.begin.new.self c.carry_out.new.self c.in_ok-number.number c.begin.ensures.called c.in_ok-carry_out.ensures.cases
