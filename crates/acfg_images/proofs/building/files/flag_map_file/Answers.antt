use Rattle.std.proofs.Common.{arith}
use Rattle.acfg_views.specs.Layout.{flag_node}
use Rattle.acfg_images.specs.Building.{flag_of}
use Rattle.acfg_images.proofs.Sizes.{rows_within, flag_some}
use Rattle.acfg_images.proofs.building.files.flag_map_file.Goals as goal

pub overflow_cast-rows : goal.overflow_cast-rows
overflow_cast-rows c = omega (arith, rows_within flag_node flag_of flag_some c.args.rows.now, c.requires, c.ranges.size)
