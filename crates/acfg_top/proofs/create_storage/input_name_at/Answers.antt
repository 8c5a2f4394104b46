use Rattle.std.proofs.Common.{rules}
use Rattle.acfg_top.proofs.Storing.{name_of_input}
use Rattle.acfg_top.proofs.create_storage.input_name_at.Goals as goal

pub returns-in-Some : goal.returns-in-Some
returns-in-Some c = name_of_input c.args.inputs.now c.args.position c.in-Some.input.now (search (rules, c.in-Some.ensures.lookup)) (search (rules, c.in-Some.ensures.lookup))
