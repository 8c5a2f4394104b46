use Rattle.acfg_cache.proofs.Orders.{are_flags}
use Rattle.acfg_cache.proofs.decoding.decode.Goals as goal

pub from_sorted-requires : goal.from_sorted-requires
from_sorted-requires c = are_flags c.in_ok-flags.flags.items c.in_ok-flags.ensures.rise c.in_ok-flags.ensures.lawful
