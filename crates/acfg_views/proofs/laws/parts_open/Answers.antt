use Rattle.std.proofs.Common.{lit<}
use Rattle.acfg_views.specs.Layout.{package_node, flag_node, IsPackageNode, IsFlagNode}
use Rattle.acfg_views.proofs.Parts.{map_parts_open, list_parts_open}
use Rattle.acfg_views.proofs.laws.parts_open.Goals as goal

pub returns : goal.returns
returns c = record {
  packages = map_parts_open 0 package_node IsPackageNode (lit< tt);
  flags = map_parts_open 1 flag_node IsFlagNode (lit< tt);
  values = list_parts_open 2 (lit< tt);
  infos = list_parts_open 3 (lit< tt);
}
