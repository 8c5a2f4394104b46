use Rattle.std.proofs.Common.{rules, ◌≡◌, map, subst, sym}
use Rattle.acfg_base.specs.Places.{AreInOrder}
use Rattle.acfg_base.specs.Release.{key_cmp, key_of}
use Rattle.acfg_base.proofs.Keys.{key_total}
use Rattle.acfg_base.proofs.Rows.{AreInOrder-map}
use Rattle.acfg_store.specs.Placed.{entry_at_row}
use Rattle.acfg_store.proofs.admitting.release_of.Goals as goal

pub from_sorted-requires : goal.from_sorted-requires
from_sorted-requires c =
    let same : c.in_ok-entries.entries.items ≡ map entry_at_row c.args.flags.items = search rules in
    subst (AreInOrder key_cmp key_of) (sym same) (AreInOrder-map key_total key_of entry_at_row c.args.flags.items c.requires)
