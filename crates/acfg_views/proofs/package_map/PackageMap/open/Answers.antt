use Rattle.std.proofs.Common.{◌∙◌, ap}
use Rattle.acfg_views.specs.Layout.{package_map_type}
use Rattle.acfg_views.specs.Reading.{opened_map}
use Rattle.acfg_views.proofs.FileFacts.{opened_map-offsets}
use Rattle.acfg_views.proofs.package_map.PackageMap.open.Goals as goal

pub invariant_of-result : goal.invariant_of-result
invariant_of-result c =
    let e = c.in_ok-map.ensures.opened in
    record { opened = ap (opened_map package_map_type) (opened_map-offsets _ _ _ e).file ∙ e; bytes = c.in_ok-map.ensures.bytes }
