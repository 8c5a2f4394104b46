use Rattle.std.proofs.Common.{arith, add-one, get_or}
use Rattle.acfg_views.specs.Layout.{flag_node}
use Rattle.acfg_images.specs.Building.{flag_of}
use Rattle.acfg_images.proofs.Sizes.{size_more, flag_size}
use Rattle.acfg_images.proofs.Emptied.{no_flag}
use Rattle.acfg_images.proofs.building.flags.flag_map_size.Goals as goal

pub loop-row-preserved : goal.loop-row-preserved
loop-row-preserved c =
    let row = get_or c.args.rows.now c.loop-row.row-index no_flag in
    let more = size_more flag_node flag_of c.args.rows.now c.loop-row.row-index no_flag c.loop-row-test.true in
    let size = flag_size (flag_of row) in
    rw add-one (omega (arith, more, size, c.loop-row.invariant, c.saturating_add-size.ensures))
