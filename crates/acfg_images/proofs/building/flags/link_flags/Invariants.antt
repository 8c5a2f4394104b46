use Rattle.std.proofs.Common.{◌≤◌, ◌-◌, length}
use Rattle.acfg_views.specs.Layout.{flag_node}
use Rattle.acfg_images.specs.Links.{flag_node_key}
use Rattle.acfg_images.specs.Building.{flag_of, flag_with}
use Rattle.acfg_images.proofs.Linking.{Linking}
use Rattle.acfg_images.proofs.Sizes.{size_of}
use Rattle.acfg_images.proofs.building.flags.link_flags.Given as goal

abbrev pub invariant-loop-i : goal.invariant-loop-i
invariant-loop-i l =
    (l.i ≤ length l.rows)
    × Linking flag_node flag_node_key flag_with flag_of (λ row. row.bucket) (length l.fn.firsts) (l.end - size_of flag_node flag_of l.fn.rows) l.fn.rows l.rows l.i l.at l.firsts

abbrev pub decreases-loop-i : goal.decreases-loop-i
decreases-loop-i l = l.i
