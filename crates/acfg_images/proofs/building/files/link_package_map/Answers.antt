use Rattle.std.proofs.Common.{map, length, ◌≡◌, rules, subst, IfOk}
use Rattle.acfg_views.specs.Layout.{MapParts, Package, package_node, package_map_type, map_file}
use Rattle.acfg_images.specs.Links.{package_key}
use Rattle.acfg_images.specs.Building.{package_of, package_with}
use Rattle.acfg_images.proofs.Filing.{in_order_is, made_size, package_same}
use Rattle.acfg_images.proofs.building.files.link_package_map.Goals as goal

pub package_map_file-requires : goal.package_map_file-requires
package_map_file-requires c =
    let len : length c.link_packages.new.firsts ≡ length c.args.firsts.now = search rules in
    made_size package_node package_key package_with package_same c.args.container.now _ c.args.size (map package_of c.args.rows.now) (map package_of c.link_packages.new.rows) _ c.link_packages.new.firsts c.requires.size c.link_packages.ensures.nodes len

pub returns : goal.returns
returns c =
    let len : length c.link_packages.new.firsts ≡ length c.args.firsts.now = search rules in
    let parts = in_order_is package_node package_key package_with package_same c.args.container.now _ c.args.size (map package_of c.args.rows.now) (map package_of c.link_packages.new.rows) c.link_packages.new.firsts c.requires.size c.link_packages.ensures.nodes len c.link_packages.ensures.firsts in
    subst (λ (p : MapParts Package). IfOk c.package_map_file.result (λ bytes. bytes.items ≡ map_file package_map_type package_node p)) parts c.package_map_file.ensures
