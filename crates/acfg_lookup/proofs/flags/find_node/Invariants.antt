use Rattle.std.proofs.Common.{◌+◌, ◌-◌}
use Rattle.acfg_lookup.specs.Lookup.{flag_bucket_size}
use Rattle.acfg_lookup.proofs.Walks.{FlagWalk}
use Rattle.acfg_lookup.proofs.flags.find_node.Given as goal

abbrev pub invariant-loop-next : goal.invariant-loop-next
invariant-loop-next g l = FlagWalk l.set l.package_id l.flag l.fn.steps l.next l.steps

abbrev pub decreases-loop-next : goal.decreases-loop-next
decreases-loop-next g l = l.fn.steps + flag_bucket_size l.set l.package_id l.flag - l.steps
