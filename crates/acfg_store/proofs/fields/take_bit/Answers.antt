use Rattle.acfg_store.proofs.Fronts.{no_bit}
use Rattle.acfg_store.proofs.fields.take_bit.Goals as goal

pub returns-else-number-eq1 : goal.returns-else-number-eq1
returns-else-number-eq1 c = λ value rest _.
    let e = c.in-Some.ensures in
    no_bit c.args.bytes.now c.in-Some.number c.in-Some.rest.now e.0 e.1 c.if-number-eq0.false c.if-number-eq1.false value rest
