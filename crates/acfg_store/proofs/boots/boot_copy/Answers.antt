use Rattle.std.proofs.Common.{subst, sym}
use Rattle.acfg_base.specs.Places.{AreInOrder}
use Rattle.acfg_base.specs.Release.{key_cmp}
use Rattle.acfg_base.proofs.Keys.{key_total}
use Rattle.acfg_base.proofs.Rows.{AreInOrder-map}
use Rattle.acfg_model.specs.Views.{booted_key}
use Rattle.acfg_store.specs.Placed.{boot_row}
use Rattle.acfg_store.proofs.boots.boot_copy.Goals as goal

pub from_sorted-requires : goal.from_sorted-requires
from_sorted-requires c = subst (AreInOrder key_cmp booted_key) (sym c.in_ok-rows.ensures) (AreInOrder-map key_total booted_key boot_row c.args.flags.items c.requires)
