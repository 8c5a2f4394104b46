use Rattle.std.proofs.Common.{map, length, ◌≡◌, rules, subst, IfOk}
use Rattle.acfg_views.specs.Layout.{MapParts, Flag, flag_node, flag_map_type, map_file}
use Rattle.acfg_images.specs.Links.{flag_node_key}
use Rattle.acfg_images.specs.Building.{flag_of, flag_with}
use Rattle.acfg_images.proofs.Filing.{in_order_is, made_size, flag_same}
use Rattle.acfg_images.proofs.building.files.link_flag_map.Goals as goal

pub flag_map_file-requires : goal.flag_map_file-requires
flag_map_file-requires c =
    let len : length c.link_flags.new.firsts ≡ length c.args.firsts.now = search rules in
    made_size flag_node flag_node_key flag_with flag_same c.args.container.now _ c.args.size (map flag_of c.args.rows.now) (map flag_of c.link_flags.new.rows) _ c.link_flags.new.firsts c.requires.size c.link_flags.ensures.nodes len

pub returns : goal.returns
returns c =
    let len : length c.link_flags.new.firsts ≡ length c.args.firsts.now = search rules in
    let parts = in_order_is flag_node flag_node_key flag_with flag_same c.args.container.now _ c.args.size (map flag_of c.args.rows.now) (map flag_of c.link_flags.new.rows) c.link_flags.new.firsts c.requires.size c.link_flags.ensures.nodes len c.link_flags.ensures.firsts in
    subst (λ (p : MapParts Flag). IfOk c.flag_map_file.result (λ bytes. bytes.items ≡ map_file flag_map_type flag_node p)) parts c.flag_map_file.ensures
