use Rattle.std.proofs.Common.{◌∙◌}
use Rattle.acfg_images.proofs.Tables.{no_flag, indexes_more}
use Rattle.acfg_images.proofs.agree.global_indexes.Goals as goal

pub loop-flag-preserved : goal.loop-flag-preserved
loop-flag-preserved c =
    c.in_ok-push.ensures.items ∙ indexes_more c.args.starts.now c.loop-flag.indexes.items c.args.flags.now c.loop-flag.flag-index no_flag c.global_index.result c.loop-flag-test.true c.loop-flag.invariant c.global_index.ensures
