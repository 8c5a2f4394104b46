use Rattle.acfg_images.proofs.Tables.{no_flag, stray_found, stray_next, stray_end}
use Rattle.acfg_images.proofs.agree.first_stray_id.Goals as goal

pub returns-then-flag-count : goal.returns-then-flag-count
returns-then-flag-count c = stray_found c.args.count c.args.flags.now c.loop-flag.flag-index no_flag _ c.loop-flag-test.true c.if-flag-count.true c.loop-flag.invariant

pub loop-flag-preserved : goal.loop-flag-preserved
loop-flag-preserved c = stray_next c.args.count c.args.flags.now c.loop-flag.flag-index no_flag _ c.loop-flag-test.true c.if-flag-count.false c.loop-flag.invariant

pub returns : goal.returns
returns c = stray_end c.args.count c.args.flags.now c.loop-flag.flag-index _ c.loop-flag-test.false c.loop-flag.invariant
