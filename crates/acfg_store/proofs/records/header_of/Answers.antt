use Rattle.acfg_store.proofs.Rowed.{no_mark, no_version, other_version, header_taken}
use Rattle.acfg_store.proofs.records.header_of.Goals as goal

pub returns-in-None : goal.returns-in-None
returns-in-None c = no_mark c.args.bytes.now c.in-None.ensures

pub returns-in-None-take_u32 : goal.returns-in-None-take_u32
returns-in-None-take_u32 c = no_version c.args.bytes.now c.in-Some.rest.now c.in-Some.ensures c.in-None-take_u32.ensures

pub returns-then-version-eq-VERSION : goal.returns-then-version-eq-VERSION
returns-then-version-eq-VERSION c =
    let e = c.in-Some-take_u32.ensures in
    header_taken c.args.bytes.now c.in-Some.rest.now c.in-Some.ensures c.in-Some-take_u32.version c.in-Some-take_u32.rest.now e.0 e.1
    c.if-version-eq-VERSION.true _ c.take_u32-then-version-eq-VERSION.ensures

pub returns-else-version-eq-VERSION : goal.returns-else-version-eq-VERSION
returns-else-version-eq-VERSION c =
    let e = c.in-Some-take_u32.ensures in
    other_version c.args.bytes.now c.in-Some.rest.now c.in-Some.ensures c.in-Some-take_u32.version c.in-Some-take_u32.rest.now e.0 e.1
    c.if-version-eq-VERSION.false
