use Rattle.std.proofs.Common.{◌≡◌, ◌∙◌, ◌++◌, ◌∷◌, [], refl, sym, ap, inr, None, arith}
use Rattle.std.proofs.Common.{map as mapped}
use Rattle.std.proofs.Math.ListN.{length-map}
use Rattle.std.proofs.lemmas.List.{map_push}
use Rattle.std.proofs.lemmas.List.Elements.{All-push}
use Rattle.acfg_views.specs.Layout.{package_map_type, package_node, IsPackageNode}
use Rattle.acfg_views.specs.Reading.{package_at, package_of}
use Rattle.acfg_views.proofs.FileFacts.{package_exact}
use Rattle.acfg_images.specs.declared.links.NodeLink.{NodeLink}
use Rattle.acfg_images.specs.declared.fault.FileType.TheVariants.{PackageMap as the_file}
use Rattle.acfg_images.specs.Faults.{nodes_of}
use Rattle.acfg_images.specs.Links.{package_key}
use Rattle.acfg_images.specs.Code.{HasBucket, links_of, link_of}
use Rattle.acfg_images.proofs.Walk.{nodes_within, so_far_none, so_far_next, walk_refused, walk_trailing, walk_done, length-nodes_in}
use Rattle.acfg_images.proofs.nodes.read_packages.Goals as goal

pub loop-init : goal.loop-init
loop-init g c =
    let none = so_far_none package_at package_node package_key (λ n. n.next) c.args.map.now (nodes_within package_map_type c.args.map.now c.first_node-at.ensures.open) in
    rw (c.requires.room.nodes, c.requires.room.links, c.first_node-at.ensures.place) (none, λ k d lt. absurd (omega arith))

pub returns-in-Err-clause-nodes : goal.returns-in-Err-clause-nodes
returns-in-Err-clause-nodes g c =
    inr (walk_refused package_at package_node package_key (λ n. n.next) c.args.map.now the_file c.args.size c.loop.counter _ _ c.loop.at c.in-Err.field-0 c.requires.size (omega (arith, c.loop-test.true, c.count-count.ensures)) c.loop.invariant.0 c.in-Err.ensures.node)

pub loop-preserved : goal.loop-preserved
loop-preserved g c =
    let n = c.in-Ok.node in
    let link : NodeLink = record { at = c.loop.at; owner = None; name = n.name; bucket = c.bucket.result; next = n.next } in
    let nodes_are : mapped package_of c.push-in-Ok.new.self.items ≡ mapped package_of c.loop.nodes.items ++ package_of n ∷ [] =
    ap (mapped package_of) c.in_ok-push-in-Ok-2.ensures.items ∙ map_push package_of c.loop.nodes.items n in
    let links_are : links_of c.push.new.self.items ≡ links_of c.loop.links.items ++ link_of link ∷ [] =
    ap links_of c.in_ok-push-in-Ok.ensures.items ∙ map_push link_of c.loop.links.items link in
    let so = so_far_next package_at package_node IsPackageNode package_key (λ n. n.next) package_exact c.args.map.now c.loop.counter (mapped package_of c.loop.nodes.items) (links_of c.loop.links.items) c.loop.at (package_of n) n.end (link_of link)
    c.first_node-at.ensures.open.bytes (omega (arith, c.loop-test.true, c.count-count.ensures)) c.loop.invariant.0 c.in-Ok.ensures.node refl in
    let hashed_so = c.bucket.ensures.value in
    let name_is = c.as_bytes.ensures.value in
    (rw (nodes_are, links_are) so, rw c.in_ok-push-in-Ok.ensures.items (All-push (HasBucket c.buckets-buckets.result) c.loop.links.items link c.loop.invariant.1 (rw name_is at hashed_so)))

pub returns-then-at-size-clause-nodes : goal.returns-then-at-size-clause-nodes
returns-then-at-size-clause-nodes g c =
    inr (walk_trailing package_at package_node package_key (λ n. n.next) c.args.map.now the_file c.args.size c.loop.counter _ _ c.loop.at c.requires.size (omega (arith, c.loop-test.false, c.count-count.ensures)) c.if-at-size.true c.loop.invariant.0)

pub returns-clause-nodes : goal.returns-clause-nodes
returns-clause-nodes g c =
    ap (nodes_of the_file c.args.size) (walk_done package_at package_node package_key (λ n. n.next) c.args.map.now c.args.size c.loop.counter _ _ c.loop.at c.requires.size (omega (arith, c.loop-test.false, c.count-count.ensures)) c.if-at-size.false c.loop.invariant.0).0

pub returns-clause-links : goal.returns-clause-links
returns-clause-links g c =
    (walk_done package_at package_node package_key (λ n. n.next) c.args.map.now c.args.size c.loop.counter _ _ c.loop.at c.requires.size (omega (arith, c.loop-test.false, c.count-count.ensures)) c.if-at-size.false c.loop.invariant.0).1

pub returns-clause-buckets : goal.returns-clause-buckets
returns-clause-buckets g c = rw (← c.buckets-buckets.ensures.count) c.loop.invariant.1

pub returns-clause-count : goal.returns-clause-count
returns-clause-count g c =
    let done = (walk_done package_at package_node package_key (λ n. n.next) c.args.map.now c.args.size c.loop.counter _ _ c.loop.at c.requires.size (omega (arith, c.loop-test.false, c.count-count.ensures)) c.if-at-size.false c.loop.invariant.0).0 in
    sym (length-map c.loop.nodes.items package_of) ∙ length-nodes_in package_at c.args.map.now _ done

pub returns-clause-few : goal.returns-clause-few
returns-clause-few g c =
    let done = (walk_done package_at package_node package_key (λ n. n.next) c.args.map.now c.args.size c.loop.counter _ _ c.loop.at c.requires.size (omega (arith, c.loop-test.false, c.count-count.ensures)) c.if-at-size.false c.loop.invariant.0).0 in
    let count = sym (length-map c.loop.nodes.items package_of) ∙ length-nodes_in package_at c.args.map.now _ done in
    omega (arith, count, c.count-count.ensures, c.count-count.type_inv)
