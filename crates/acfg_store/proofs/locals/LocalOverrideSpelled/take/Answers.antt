use Rattle.std.proofs.Common.{refl}
use Rattle.acfg_store.proofs.Rowed.{no_index, no_value, local_taken}
use Rattle.acfg_store.proofs.locals.LocalOverrideSpelled.take.Goals as goal

pub returns-in-None : goal.returns-in-None
returns-in-None c = no_index c.args.bytes.now c.in-None.ensures

pub returns-in-None-take_bit : goal.returns-in-None-take_bit
returns-in-None-take_bit c =
    let e = c.in-Some.ensures in
    no_value c.args.bytes.now c.in-Some.index c.in-Some.rest.now e.0 e.1 c.in-None-take_bit.ensures

pub returns-in-Some-take_bit : goal.returns-in-Some-take_bit
returns-in-Some-take_bit c =
    let e = c.in-Some.ensures in
    let f = c.in-Some-take_bit.ensures in
    (e.0, local_taken c.args.bytes.now c.in-Some.index c.in-Some.rest.now e.0 e.1 (record { index = c.in-Some.index; value = c.in-Some-take_bit.value }) c.in-Some-take_bit.rest.now refl f.1)
