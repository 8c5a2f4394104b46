use Rattle.std.proofs.Common.{map as mapped}
use Rattle.acfg_views.specs.Layout.{flag_node}
use Rattle.acfg_views.specs.Reading.{flag_at, flag_of}
use Rattle.acfg_images.specs.Links.{flag_node_key}
use Rattle.acfg_images.specs.Code.{HaveBuckets, links_of}
use Rattle.acfg_images.proofs.Walk.{SoFar}
use Rattle.acfg_images.proofs.nodes.read_flags.Given as goal

abbrev pub invariant-loop : goal.invariant-loop
invariant-loop g l =
    SoFar flag_at flag_node flag_node_key (λ n. n.next) l.map l.counter (mapped flag_of l.nodes.items) (links_of l.links.items) l.at
    × HaveBuckets l.buckets l.links.items
