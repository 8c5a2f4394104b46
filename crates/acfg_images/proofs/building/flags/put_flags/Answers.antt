use Rattle.std.proofs.Common.{arith, get_or}
use Rattle.acfg_views.specs.Layout.{flag_node}
use Rattle.acfg_images.specs.Building.{flag_of}
use Rattle.acfg_images.proofs.Sizes.{one_within, flag_size}
use Rattle.acfg_images.proofs.Emptied.{no_flag}
use Rattle.acfg_images.proofs.building.flags.put_flags.Goals as goal

pub put_flag-requires : goal.put_flag-requires
put_flag-requires c =
    let row = get_or c.args.rows.now c.loop-row.row-index no_flag in
    omega (arith, one_within flag_node flag_of c.args.rows.now c.loop-row.row-index no_flag c.loop-row-test.true, flag_size (flag_of row), c.requires)
