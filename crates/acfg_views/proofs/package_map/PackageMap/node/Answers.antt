use Rattle.acfg_views.proofs.FileFacts.{opened_map-header}
use Rattle.acfg_views.proofs.package_map.PackageMap.node.Goals as goal

pub package_node_of-requires : goal.package_node_of-requires
package_node_of-requires c = (opened_map-header _ _ _ c.self.invariant.bytes c.self.invariant.opened).size
