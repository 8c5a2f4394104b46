use Rattle.std.proofs.Common.{length, arith}
use Rattle.acfg_store.proofs.Spreading.{put_all, put_more, put_none}
use Rattle.acfg_store.proofs.stamping.spread.Goals as goal

pub loop-i-init : goal.loop-i-init
loop-i-init c = put_none c.args.indexes.now c.args.bytes.now c.args.table.now

pub loop-i-preserved : goal.loop-i-preserved
loop-i-preserved c =
    put_more c.args.indexes.now c.args.bytes.now c.loop-i.table c.put.new.table c.loop-i.i (omega (arith, c.requires.within c.loop-i.i 0 c.loop-i-test.true, c.loop-i.auto.table)) c.put.ensures
    c.loop-i.invariant

pub returns-clause-put : goal.returns-clause-put
returns-clause-put c =
    put_all c.args.indexes.now c.args.bytes.now c.loop-i.table c.loop-i.i (length c.args.indexes.now) (omega (arith, c.loop-i.auto.i-end, c.loop-i-test.false)) c.loop-i.invariant
