use Rattle.std.proofs.Common.{◌<◌, sym, subst, arith}
use Rattle.acfg_views.specs.Reading.{OpenMap, bucket_count}
use Rattle.acfg_views.proofs.FileFacts.{opened_map-offsets}
use Rattle.acfg_views.proofs.flag_map.FlagMap.bucket_at.Goals as goal

pub u32_in_place-requires : goal.u32_in_place-requires
u32_in_place-requires c =
    let o = (opened_map-offsets _ _ _ c.self.invariant.opened).offsets in
    let below = subst (λ (map : OpenMap). c.args.i < bucket_count map) (sym c.self.view_is) c.requires in
    omega (arith, o.some, o.whole, o.within, below)
