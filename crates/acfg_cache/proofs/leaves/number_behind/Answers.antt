use Rattle.std.proofs.Common.{◌≡◌, ◌∙◌, ◌+◌, ◌-◌, ◌<◌, filter_map, length, take, sym, ap, arith}
use Rattle.std.specs.List.{last_or}
use Rattle.std.proofs.lemmas.List.{take_all}
use Rattle.acfg_cache.specs.Counted.{number_at}
use Rattle.acfg_cache.specs.Bodies.{leaf_read, leaves_read}
use Rattle.acfg_cache.proofs.Ends.{last_before, last_here}
use Rattle.acfg_cache.proofs.leaves.number_behind.Goals as goal

pub loop-i-init : goal.loop-i-init
loop-i-init c = record {
  within = omega arith;
  same = ap (λ leaves. last_or c.args.before (filter_map (number_at c.args.field) (leaves_read leaves))) (take_all _ c.args.leaves.now (omega arith));
}

pub loop-i-preserved : goal.loop-i-preserved
loop-i-preserved c =
    let leaves = c.args.leaves.now in
    let j = c.loop-i.i - 1 in
    let lt : j < length leaves = omega (arith, c.loop-i.invariant.within, c.loop-i-test.true) in
    let is : j + 1 ≡ c.loop-i.i = omega (arith, c.loop-i-test.true) in
    record {
      within = omega (arith, lt);
      same = sym (last_before (number_at c.args.field) leaf_read c.args.before leaves j _ lt (sym c.number_at.ensures ∙ c.in-None.is))
          ∙ ap (λ n. last_or c.args.before (filter_map (number_at c.args.field) (leaves_read (take n leaves)))) is ∙ c.loop-i.invariant.same;
    }

pub returns-in-Some : goal.returns-in-Some
returns-in-Some c =
    let leaves = c.args.leaves.now in
    let j = c.loop-i.i - 1 in
    let lt : j < length leaves = omega (arith, c.loop-i.invariant.within, c.loop-i-test.true) in
    let is : j + 1 ≡ c.loop-i.i = omega (arith, c.loop-i-test.true) in
    sym (last_here (number_at c.args.field) leaf_read c.args.before leaves j _ lt c.in-Some.number (sym c.number_at.ensures ∙ c.in-Some.is))
    ∙ ap (λ n. last_or c.args.before (filter_map (number_at c.args.field) (leaves_read (take n leaves)))) is ∙ c.loop-i.invariant.same

pub returns : goal.returns
returns c =
    let none : c.loop-i.i ≡ 0 = omega (arith, c.loop-i-test.false) in
    ap (λ n. last_or c.args.before (filter_map (number_at c.args.field) (leaves_read (take n c.args.leaves.now)))) (sym none) ∙ c.loop-i.invariant.same
