use Rattle.acfg_views.proofs.FileFacts.{opened_map-header}
use Rattle.acfg_views.proofs.flag_map.FlagMap.node.Goals as goal

pub flag_node_of-requires : goal.flag_node_of-requires
flag_node_of-requires c = (opened_map-header _ _ _ c.self.invariant.bytes c.self.invariant.opened).size
