use Rattle.std.proofs.Common.{arith}
use Rattle.acfg_views.proofs.FileFacts.{opened_map-offsets}
use Rattle.acfg_views.proofs.flag_map.FlagMap.buckets.Goals as goal

pub overflow_sub-result : goal.overflow_sub-result
overflow_sub-result c = let o = (opened_map-offsets _ _ _ c.self.invariant.opened).offsets in omega (arith, o.some)

pub returns-clause-some : goal.returns-clause-some
returns-clause-some c = let o = (opened_map-offsets _ _ _ c.self.invariant.opened).offsets in omega (arith, o.some, o.whole)
