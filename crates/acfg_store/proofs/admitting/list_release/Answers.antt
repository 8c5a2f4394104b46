use Rattle.std.proofs.Common.{rules, ◌<◌, ◌^◌, map, ap, ◌∙◌}
use Rattle.acfg_store.specs.Placed.{index_of}
use Rattle.acfg_store.proofs.SetListed.{listed_release}
use Rattle.acfg_store.proofs.admitting.list_release.Goals as goal

pub returns : goal.returns
returns c =
    let below : c.count.result < 2 ^ 32 = search rules in
    listed_release c.args.set.now c.args.checked.now c.requires c.in_ok-flags.flags.items c.in_ok-flags.ensures.flags
    (record { digest = c.digest.result; release = c.in_ok-release.release; indexes = c.in_ok-indexes.indexes; count = c.count.result }) c.digest.ensures c.in_ok-release.ensures c.in_ok-flags.ensures.keys
    (c.in_ok-indexes.ensures ∙ ap (map index_of) c.as_slice.ensures.value) c.count.ensures.flags below
