use Rattle.acfg_images.proofs.Tables.{count_room, counts_more, counts_all}
use Rattle.acfg_images.proofs.agree.count_numbers.Goals as goal

pub count_number-requires : goal.count_number-requires
count_number-requires c = count_room c.loop-number.counts c.args.numbers.now c.loop-number.number-index _ c.requires.few c.loop-number.invariant c.loop-number-test.true

pub loop-number-preserved : goal.loop-number-preserved
loop-number-preserved c = counts_more c.loop-number.counts c.count_number.new.counts c.args.numbers.now c.loop-number.number-index 0 c.loop-number-test.true c.loop-number.invariant c.count_number.ensures

pub returns : goal.returns
returns c = counts_all _ _ _ c.loop-number-test.false c.loop-number.invariant
