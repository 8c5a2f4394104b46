use Rattle.acfg_images.proofs.Tables.{no_package, marked_more, marked_all}
use Rattle.acfg_images.proofs.agree.mark_ids.Goals as goal

pub loop-node-preserved : goal.loop-node-preserved
loop-node-preserved c = marked_more _ _ _ _ no_package c.loop-node-test.true c.loop-node.invariant c.mark.ensures

pub returns : goal.returns
returns c = marked_all _ _ _ c.loop-node-test.false c.loop-node.invariant
