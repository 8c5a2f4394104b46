use Rattle.std.proofs.Common.{◌-◌, ℕ, List, length, arith, subst, sym, take, drop, length-drop}
use Rattle.std.proofs.lemmas.List.{length-take}
use Rattle.std.specs.Io.KnownBytes.{Appends}
use Rattle.acfg_hostdev.proofs.Transfers.{appended_none, appended_part, appended_so_far, appended_then, appended_turn}
use Rattle.acfg_hostdev.proofs.transfer.write_whole.Goals as goal
use Rattle.acfg_hostdev.proofs.transfer.write_whole.Goals.{in-Ok, in-Err+else-ne}

pub returns-in-Ok-eq0-clause-err : goal.returns-in-Ok-eq0-clause-err
returns-in-Ok-eq0-clause-err g c =
    let buffer : List ℕ = take (length c.args.bytes.now - c.loop.done) (drop c.loop.done c.args.bytes.now) in
    let none = subst (λ (n : ℕ). Appends (g.W.Write.contents c.loop.to) (g.W.Write.contents c.write.new.self) (take n buffer)) c.in-Ok-eq0.field-0-test c.in-Ok-eq0.ensures.bytes in
    appended_part _ _ _ _ _ c.loop.invariant.first (appended_none _ _ none)

pub returns-then-ne-clause-err : goal.returns-then-ne-clause-err
returns-then-ne-clause-err g c = appended_part _ _ _ _ _ c.loop.invariant.first c.in-Err.ensures.bytes

pub loop-preserved : goal.loop-preserved
loop-preserved g c = elim c.match-write.branch [
  | in-Ok w ↦ record {
    within = omega (arith, w.done-is, c.loop.invariant.within, simp (length-take, length-drop) at w.in-Ok.ensures.bound);
    first = subst (λ (n : ℕ). Appends (g.W.Write.contents c.args.to.now) (g.W.Write.contents c.write.new.self) (take n c.args.bytes.now)) (sym w.done-is)
        (appended_turn _ _ _ c.args.bytes.now c.loop.done w.in-Ok.count c.loop.invariant.first w.in-Ok.ensures.bytes);
  }
  | in-Err+else-ne w ↦ record {
    within = omega (arith, w.done-is, c.loop.invariant.within);
    first = subst (λ (n : ℕ). Appends (g.W.Write.contents c.args.to.now) (g.W.Write.contents c.write.new.self) (take n c.args.bytes.now)) (sym w.done-is)
        (appended_then _ _ _ _ c.loop.invariant.first w.in-Err.ensures.bytes);
  }
]

pub returns-clause-err : goal.returns-clause-err
returns-clause-err g c = appended_so_far _ _ _ _ c.loop.invariant.first
