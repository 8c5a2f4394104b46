use Rattle.std.proofs.Common.{◌≡◌, ◌++◌, ◌-◌, ◌<◌, ℕ, List, length, take, drop, ap, ◌∙◌, arith}
use Rattle.std.proofs.lemmas.List.{length-drop, take_all}
use Rattle.std.proofs.lemmas.Result.{on_ok_weaker}
use Rattle.acfg_base.specs.Bytes.{comma}
use Rattle.acfg_dump.specs.Lines.{point_text}
use Rattle.acfg_dump.proofs.Joined.{put_joined}
use Rattle.acfg_dump.proofs.values.put_trace.Goals as goal

pub returns : goal.returns
returns c =
    let trace = c.args.trace.now in
    let old = c.args.out.now.items in
    let some : 0 < length trace = omega (arith, c.in-len1-up.len_at_least) in
    let rest : take (length trace - 1) (drop 1 trace) ≡ drop 1 trace = take_all (length trace - 1) (drop 1 trace) (omega (arith, length-drop 1 trace)) in
    on_ok_weaker c.put_other_points.result
    (λ e. put_joined point_text comma trace (take (length trace - 1) (drop 1 trace)) c.first-item.result old c.put_point.new.out.items c.put_other_points.new.out.items some c.first-item.is rest
    c.in_ok-put_point.ensures e)
    c.put_other_points.ensures
