use Rattle.std.proofs.Common.{arith}
use Rattle.acfg_views.proofs.FileFacts.{opened_map-offsets}
use Rattle.acfg_images.proofs.buckets.flag_first_bucket.Goals as goal

pub returns-clause-place : goal.returns-clause-place
returns-clause-place c =
    let o = (opened_map-offsets _ _ _ c.first_node.ensures.open.opened).offsets in
    omega (arith, o.some, o.whole, c.first_node.ensures.place, c.buckets.ensures.count)
