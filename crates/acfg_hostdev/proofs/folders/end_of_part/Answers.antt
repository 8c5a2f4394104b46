use Rattle.std.proofs.Common.{◌≡◌, ◌-◌, true, arith, get_or}
use Rattle.std.proofs.lemmas.Bool.Decides.{nat_tests}
use Rattle.acfg_hostdev.proofs.Ends.{ends_at, none_passes}
use Rattle.acfg_hostdev.specs.Folder.{is_other}
use Rattle.acfg_hostdev.proofs.folders.end_of_part.Goals as goal

pub returns-else-bytes-end-eq47-clause-value : goal.returns-else-bytes-end-eq47-clause-value
returns-else-bytes-end-eq47-clause-value c =
    let here : is_other (get_or c.args.bytes.now (c.loop-end.end - 1) 0) ≡ true = grind (arith, nat_tests) in
    let ends = ends_at is_other c.args.bytes.now (c.loop-end.end - 1) (omega arith) here (λ k above below. c.loop-end.invariant.none k (omega (arith, above)) below) in
    omega (arith, ends)

pub returns-after-loop-end-clause-value : goal.returns-after-loop-end-clause-value
returns-after-loop-end-clause-value c =
    let none = none_passes is_other c.args.bytes.now (λ k low. c.loop-end.invariant.none k (omega arith) low) in
    omega (arith, none)
