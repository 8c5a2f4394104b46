use Rattle.std.proofs.Common.{◌≡◌, ◌-◌, ℕ, true, arith, refl, sym, subst}
use Rattle.acfg_hostdev.proofs.Ends.{ends_at, none_passes}
use Rattle.acfg_hostdev.specs.Folder.{is_slash}
use Rattle.acfg_hostdev.proofs.folders.end_of_slash.Goals as goal

pub returns-else-bytes-end-ne47-clause-value : goal.returns-else-bytes-end-ne47-clause-value
returns-else-bytes-end-ne47-clause-value c =
    let here = subst (λ (byte : ℕ). is_slash byte ≡ true) (sym c.if-bytes-end-ne47.false) refl in
    let ends = ends_at is_slash c.args.bytes.now (c.loop-end.end - 1) (omega arith) here (λ k above below. c.loop-end.invariant.none k (omega (arith, above)) below) in
    omega (arith, ends)

pub returns-after-loop-end-clause-value : goal.returns-after-loop-end-clause-value
returns-after-loop-end-clause-value c =
    let none = none_passes is_slash c.args.bytes.now (λ k low. c.loop-end.invariant.none k (omega arith) low) in
    omega (arith, none)
