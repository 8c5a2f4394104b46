use Rattle.acfg_store.proofs.Fronts.{no_length, taken_behind}
use Rattle.acfg_store.proofs.fields.take_name.Goals as goal

pub returns-in-None : goal.returns-in-None
returns-in-None c = no_length c.args.bytes.now c.in-None.ensures

pub returns-in_ok-name-in-Some : goal.returns-in_ok-name-in-Some
returns-in_ok-name-in-Some c =
    let e = c.in-Some.ensures in
    taken_behind c.args.bytes.now c.in-Some.len c.in-Some.rest.now e.0 e.1 _ c.in_ok-name-in-Some.ensures
