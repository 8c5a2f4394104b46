use Rattle.std.proofs.Common.{arith}
use Rattle.acfg_images.proofs.Emptied.{no_row}
use Rattle.acfg_images.proofs.Numbering.{pushed_nodes, pushed_sources, flag_buckets_more}
use Rattle.acfg_images.proofs.building.flags.push_flags.Goals as goal

pub loop-flag-preserved : goal.loop-flag-preserved
loop-flag-preserved c =
    let so = c.loop-flag.invariant in
    let i = c.loop-flag.flag-index in
    let pushed = c.in_ok-push.ensures.items in
    record {
      index = omega (arith, so.index);
      nodes = pushed_nodes _ _ _ _ c.args.id c.loop-flag.index c.args.flags.now i no_row c.loop-flag-test.true so.nodes pushed c.make_flag.ensures.node so.index;
      sources = pushed_sources _ _ _ _ c.args.flags.now i no_row c.loop-flag-test.true so.sources pushed c.make_flag.ensures.source;
      buckets = λ have. flag_buckets_more c.args.buckets _ _ _ pushed (so.buckets have) c.make_flag.ensures.bucket;
    }
