use Rattle.std.proofs.Common.{rules, ◌≡◌}
use Rattle.acfg_store.proofs.SetListed.{checked_set, lists_loaded}
use Rattle.acfg_store.proofs.admitting.list_set.Goals as goal

pub list_release-requires : goal.list_release-requires
list_release-requires c = checked_set c.args.set.now c.in-Ok.checked c.in-Ok.ensures.first c.in-Ok.ensures.sets

pub returns-in_ok-listing-in-Ok : goal.returns-in_ok-listing-in-Ok
returns-in_ok-listing-in-Ok c =
    let same : c.in-Ok.checked.package_map.container ≡ c.args.container.now = search rules in
    lists_loaded c.args.set.now c.in-Ok.checked (checked_set c.args.set.now c.in-Ok.checked c.in-Ok.ensures.first c.in-Ok.ensures.sets) c.args.container.now same c.in_ok-listing-in-Ok.listing c.in_ok-listing-in-Ok.ensures
