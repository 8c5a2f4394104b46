use Rattle.std.proofs.Common.{map as mapped}
use Rattle.acfg_views.specs.Layout.{package_node}
use Rattle.acfg_views.specs.Reading.{package_at, package_of}
use Rattle.acfg_images.specs.Links.{package_key}
use Rattle.acfg_images.specs.Code.{HaveBuckets, links_of}
use Rattle.acfg_images.proofs.Walk.{SoFar}
use Rattle.acfg_images.proofs.nodes.read_packages.Given as goal

abbrev pub invariant-loop : goal.invariant-loop
invariant-loop g l =
    SoFar package_at package_node package_key (λ n. n.next) l.map l.counter (mapped package_of l.nodes.items) (links_of l.links.items) l.at
    × HaveBuckets l.buckets l.links.items
