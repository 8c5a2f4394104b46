use Rattle.acfg_store.proofs.Reading.{no_header, too_many, records_found}
use Rattle.acfg_store.proofs.records.read_records.Goals as goal

pub returns-in-None : goal.returns-in-None
returns-in-None c = no_header c.args.bytes.now c.in-None.ensures

pub returns-then-count-gt-MOST_CONTAINERS : goal.returns-then-count-gt-MOST_CONTAINERS
returns-then-count-gt-MOST_CONTAINERS c =
    let e = c.in-Some.ensures in
    too_many c.args.bytes.now c.in-Some.count c.in-Some.rest.now e.0 e.1 c.if-count-gt-MOST_CONTAINERS.true

pub returns-in_ok-rows-in-Some : goal.returns-in_ok-rows-in-Some
returns-in_ok-rows-in-Some c =
    let e = c.in-Some.ensures in
    records_found c.args.bytes.now c.in-Some.count c.in-Some.rest.now e.0 e.1 c.if-count-gt-MOST_CONTAINERS.false
    c.in_ok-rows-in-Some.rows c.in_ok-rows-in-Some.ensures
