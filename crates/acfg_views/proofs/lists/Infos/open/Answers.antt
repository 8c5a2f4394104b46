use Rattle.std.proofs.Common.{◌∙◌, ap}
use Rattle.acfg_views.specs.Layout.{flag_info_type}
use Rattle.acfg_views.specs.Reading.{opened_list}
use Rattle.acfg_views.proofs.FileFacts.{opened_list-offsets}
use Rattle.acfg_views.proofs.lists.Infos.open.Goals as goal

pub invariant_of-result : goal.invariant_of-result
invariant_of-result c =
    let e = c.in_ok-list.ensures.opened in
    record { opened = ap (opened_list flag_info_type) (opened_list-offsets _ _ _ e).file ∙ e; bytes = c.in_ok-list.ensures.bytes }
