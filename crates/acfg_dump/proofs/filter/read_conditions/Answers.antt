use Rattle.std.proofs.Common.{◌≡◌, ◌+◌, ◌<◌, [], List, ℕ, suc, length, get_or, take, drop, sym, subst, arith}
use Rattle.std.specs.List.{AllZip}
use Rattle.std.proofs.lemmas.Slice.Zip.{all_zipped_more}
use Rattle.acfg_dump.specs.declared.conditions.Condition.{Condition}
use Rattle.acfg_dump.specs.Filter.{IsCondition}
use Rattle.acfg_dump.proofs.Extents.{piece, words}
use Rattle.acfg_dump.proofs.OneCondition.{all_some}
use Rattle.acfg_dump.proofs.filter.read_conditions.Goals as goal

pub overflow_add-result : goal.overflow_add-result
overflow_add-result c =
    let here = piece c.args.texts.now c.loop-index.index (record { ref_ptr = (0, 0); now = [] }) c.loop-index-test.true in
    omega (arith, here.place, here.room, c.loop-index.invariant.bytes, c.requires)

pub overflow_add-result-in_default : goal.overflow_add-result-in_default
overflow_add-result-in_default c =
    let here = piece c.args.texts.now c.loop-index.index (record { ref_ptr = (0, 0); now = [] }) c.loop-index-test.true in
    omega (arith, here.place, here.room, c.loop-index.invariant.bytes, c.requires)

pub returns-in_default-clause-err : goal.returns-in_default-clause-err
returns-in_default-clause-err c =
    let here = piece c.args.texts.now c.loop-index.index (record { ref_ptr = (0, 0); now = [] }) c.loop-index-test.true in
    let none = rw c.in_default.is at c.in_ok-condition.ensures in
    record {
      before = take c.loop-index.index (words c.args.texts.now);
      bad = (get_or c.args.texts.now c.loop-index.index (record { ref_ptr = (0, 0); now = [] })).now;
      behind = drop (suc c.loop-index.index) (words c.args.texts.now);
      cut = here.cut;
      at = omega (arith, here.place, c.loop-index.invariant.bytes);
      lawful = all_some _ c.loop-index.conditions c.loop-index.invariant.read;
      none = λ some. none some.0 some.1;
    }

pub overflow_add-before : goal.overflow_add-before
overflow_add-before c =
    let here = piece c.args.texts.now c.loop-index.index (record { ref_ptr = (0, 0); now = [] }) c.loop-index-test.true in
    omega (arith, here.place, here.room, c.loop-index.invariant.bytes, c.requires)

pub loop-index-preserved : goal.loop-index-preserved
loop-index-preserved c =
    let here = piece c.args.texts.now c.loop-index.index (record { ref_ptr = (0, 0); now = [] }) c.loop-index-test.true in
    let is = rw c.in-Some.is at c.in_ok-condition.ensures in
    let text = (get_or c.args.texts.now c.loop-index.index (record { ref_ptr = (0, 0); now = [] })).now in
    record {
      read = subst (λ (both : List (List ℕ) × List Condition). AllZip IsCondition both.0 both.1) (λ j. (sym here.next j, sym c.in_ok-push.ensures.ok j))
          (all_zipped_more IsCondition _ c.loop-index.conditions text c.in-Some.condition c.loop-index.invariant.read is);
      bytes = omega (arith, here.more, c.loop-index.invariant.bytes);
    }
