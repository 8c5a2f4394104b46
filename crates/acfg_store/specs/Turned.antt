-- Private: the slot that isn't named. No public clause cites it.
use Rattle.acfg_store.specs.declared.names.Slot.{Slot}
use Rattle.acfg_store.specs.declared.names.Slot.TheVariants.{Zero, One}

abbrev pub other_slot : Slot → Slot
other_slot Zero = One
other_slot One = Zero
