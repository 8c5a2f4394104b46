use Rattle.acfg_store.proofs.Reading.{no_count, locals_found}
use Rattle.acfg_store.proofs.locals.read_locals.Goals as goal

pub returns-in-None : goal.returns-in-None
returns-in-None c = no_count c.args.bytes.now c.in-None.ensures

pub returns-in_ok-rows-in-Some : goal.returns-in_ok-rows-in-Some
returns-in_ok-rows-in-Some c =
    let e = c.in-Some.ensures in
    locals_found c.args.bytes.now c.in-Some.count c.in-Some.rest.now e.0 e.1 c.in_ok-rows-in-Some.rows c.in_ok-rows-in-Some.ensures
