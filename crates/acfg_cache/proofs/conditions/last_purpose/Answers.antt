use Rattle.std.proofs.Common.{◌∙◌}
use Rattle.acfg_cache.proofs.Steps.{joined_next}
use Rattle.acfg_cache.proofs.conditions.last_purpose.Goals as goal

pub loop-message-preserved : goal.loop-message-preserved
loop-message-preserved c =
    rw (c.number_behind-last.ensures, c.deref.ensures.value)
    (joined_next c.loop-message.last c.args.metadata.now c.loop-message.message-index c.message-item.result c.loop-message-test.true c.message-item.is ∙ c.loop-message.invariant)
