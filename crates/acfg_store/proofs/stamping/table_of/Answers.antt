use Rattle.std.proofs.Common.{◌≡◌, length, rules, subst, sym}
use Rattle.acfg_store.specs.Stamped.{ArePut}
use Rattle.acfg_store.proofs.Spreading.{given_back}
use Rattle.acfg_store.proofs.stamping.table_of.Goals as goal

pub returns-clause-put : goal.returns-clause-put
returns-clause-put c =
    let all : length c.spread.new.table ≡ c.in_ok-table.table.len = search rules in
    let same : length c.spread.new.table ≡ length c.in_ok-table.table.items = search rules in
    subst (ArePut c.args.indexes.now c.args.bytes.now (length c.args.indexes.now)) (sym (given_back c.in_ok-table.table.len c.spread.new.table c.in_ok-table.table.items all same)) c.spread.ensures.put
