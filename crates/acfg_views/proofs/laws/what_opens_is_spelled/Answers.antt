use Rattle.acfg_views.specs.Layout.{package_node, flag_node, IsPackageNode, IsFlagNode}
use Rattle.acfg_views.proofs.Parts.{open_map_has_parts, open_list_has_parts}
use Rattle.acfg_views.proofs.laws.what_opens_is_spelled.Goals as goal

pub returns : goal.returns
returns c = record {
  packages = open_map_has_parts 0 package_node IsPackageNode;
  flags = open_map_has_parts 1 flag_node IsFlagNode;
  values = open_list_has_parts 2;
  infos = open_list_has_parts 3;
}
