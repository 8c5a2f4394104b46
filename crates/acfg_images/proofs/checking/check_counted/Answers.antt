use Rattle.std.proofs.Common.{inr}
use Rattle.std.proofs.lemmas.Result.{err_from_is_err_and}
use Rattle.acfg_images.proofs.Stages.{stops_view}
use Rattle.acfg_images.proofs.checking.check_counted.Goals as goal

pub returns-in_err-views : goal.returns-in_err-views
returns-in_err-views g c =
    let p = err_from_is_err_and c.from_residual.result c.from_residual.ensures.1 in
    rw (p.1, p.2) (inr (stops_view c.args.purpose c.args.set.now c.in_err-views.field-0.0 c.in_err-views.ensures))
