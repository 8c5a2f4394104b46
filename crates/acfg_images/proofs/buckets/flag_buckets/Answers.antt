use Rattle.acfg_images.proofs.Numbers.{bucket_next}
use Rattle.acfg_images.proofs.buckets.flag_buckets.Goals as goal

pub loop-b-preserved : goal.loop-b-preserved
loop-b-preserved c = bucket_next c.args.map.now c.loop-b.b c.loop-b.buckets.items _ c.bucket_at.result c.loop-b.invariant c.bucket_at.ensures c.in_ok-push.ensures.items
