use Rattle.std.proofs.Common.{◌≡◌, ◌∙◌, length, sym, ap, subst, inr, Option, Ok, arith}
use Rattle.std.proofs.Common.{map as mapped}
use Rattle.std.proofs.lemmas.Result.{err_from_is_err_and}
use Rattle.acfg_views.specs.Reading.{package_of, bucket_count}
use Rattle.acfg_images.specs.declared.fault.ImageFault.{ImageFault}
use Rattle.acfg_images.specs.declared.fault.FileType.TheVariants.{PackageMap}
use Rattle.acfg_images.specs.Links.{package_links}
use Rattle.acfg_images.specs.Code.{links_of}
use Rattle.acfg_images.specs.Twins.{Rise}
use Rattle.acfg_images.proofs.TwinRows.{packages_rise}
use Rattle.acfg_images.specs.Faults.{unless}
use Rattle.acfg_images.proofs.Stages.{packages_stop, packages_linked, length-buckets_in, link_fault_is}
use Rattle.acfg_images.proofs.maps.check_packages.Goals as goal

pub returns-in_err-packages-clause-nodes : goal.returns-in_err-packages-clause-nodes
returns-in_err-packages-clause-nodes g c =
    let p = err_from_is_err_and c.from_residual.result c.from_residual.ensures.1 in
    rw (p.1, p.2) (packages_stop c.args.map.now c.args.size c.in_err-packages.field-0.0 c.requires.size c.in_err-packages.ensures.nodes)

pub links_fault-requires-clause-buckets : goal.links_fault-requires-clause-buckets
links_fault-requires-clause-buckets g c =
    rw (c.deref-2.ensures.value, c.deref.ensures.value, c.in_ok-buckets.ensures, length-buckets_in c.args.map.now) c.in_ok-packages.ensures.buckets

pub links_fault-requires-clause-rising : goal.links_fault-requires-clause-rising
links_fault-requires-clause-rising g c =
    let nodes = mapped package_of c.in_ok-packages.packages.nodes.items in
    subst Rise (sym (ap links_of c.deref-2.ensures.value ∙ c.in_ok-packages.ensures.links)) (packages_rise c.args.map.now.first_node nodes)

pub links_fault-requires-clause-some : goal.links_fault-requires-clause-some
links_fault-requires-clause-some g c =
    let size : length c.deref.result.now ≡ bucket_count c.args.map.now = ap length c.deref.ensures.value ∙ ap length c.in_ok-buckets.ensures ∙ length-buckets_in c.args.map.now in
    let some = c.package_first_bucket-first_bucket.ensures.some in
    omega (arith, size, some)

pub links_fault-requires-clause-room : goal.links_fault-requires-clause-room
links_fault-requires-clause-room g c =
    let size : length c.deref.result.now ≡ bucket_count c.args.map.now = ap length c.deref.ensures.value ∙ ap length c.in_ok-buckets.ensures ∙ length-buckets_in c.args.map.now in
    let room = c.package_first_bucket-first_bucket.ensures.room in
    omega (arith, size, room)

pub returns-in-Some-clause-nodes : goal.returns-in-Some-clause-nodes
returns-in-Some-clause-nodes g c =
    let map = c.args.map.now in
    let nodes = mapped package_of c.in_ok-packages.packages.nodes.items in
    let linked = link_fault_is PackageMap map _ _ _ (package_links map.first_node nodes) c.in_ok-fault.fault c.in_ok-fault.ensures c.package_first_bucket-first_bucket.ensures.place (c.deref.ensures.value ∙ c.in_ok-buckets.ensures) (ap links_of c.deref-2.ensures.value ∙ c.in_ok-packages.ensures.links) in
    inr (packages_linked map c.args.size nodes c.in_ok-fault.fault c.requires.size c.in_ok-packages.ensures.nodes linked ∙ ap (λ (o : Option ImageFault). unless o (Ok nodes)) c.in-Some.is)

pub returns-clause-nodes : goal.returns-clause-nodes
returns-clause-nodes g c =
    let map = c.args.map.now in
    let nodes = mapped package_of c.in_ok-packages.packages.nodes.items in
    let linked = link_fault_is PackageMap map _ _ _ (package_links map.first_node nodes) c.in_ok-fault.fault c.in_ok-fault.ensures c.package_first_bucket-first_bucket.ensures.place (c.deref.ensures.value ∙ c.in_ok-buckets.ensures) (ap links_of c.deref-2.ensures.value ∙ c.in_ok-packages.ensures.links) in
    packages_linked map c.args.size nodes c.in_ok-fault.fault c.requires.size c.in_ok-packages.ensures.nodes linked ∙ ap (λ (o : Option ImageFault). unless o (Ok nodes)) c.in-None.is
