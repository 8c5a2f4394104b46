use Rattle.std.proofs.Common.{◌≡◌, ◌++◌, ◌-◌, ◌<◌, ℕ, List, length, take, drop, ap, ◌∙◌, arith}
use Rattle.std.proofs.lemmas.List.{length-drop, take_all}
use Rattle.std.proofs.lemmas.Result.{on_ok_weaker}
use Rattle.acfg_base.specs.Bytes.{comma}
use Rattle.acfg_dump.proofs.Joined.{put_texts}
use Rattle.acfg_dump.proofs.values.put_bugs.Goals as goal

pub returns : goal.returns
returns c =
    let bugs = c.args.bugs.now in
    let old = c.args.out.now.items in
    let some : 0 < length bugs = omega (arith, c.in-len1-up.len_at_least) in
    let rest : take (length bugs - 1) (drop 1 bugs) ≡ drop 1 bugs = take_all (length bugs - 1) (drop 1 bugs) (omega (arith, length-drop 1 bugs)) in
    on_ok_weaker c.put_other_bugs.result
    (λ e. put_texts comma bugs (take (length bugs - 1) (drop 1 bugs)) c.first-item.result old c.put.new.out.items c.put_other_bugs.new.out.items some c.first-item.is rest
    (c.in_ok-put.ensures ∙ ap (λ t. old ++ t) c.as_str.ensures) e)
    c.put_other_bugs.ensures
