use Rattle.std.proofs.Common.{◌≡◌, ◌+◌, ◌<◌, [], ◌∷◌, ◌++◌, List, ℕ, suc, length, get_or, take, drop, map, sym, ap, subst, ◌∙◌, arith}
use Rattle.std.specs.List.{AllZip}
use Rattle.std.specs.Prelude.{sum_by}
use Rattle.std.proofs.lemmas.List.{map-append, take_all, length-map}
use Rattle.std.proofs.lemmas.Result.{err_from_is_err_and}
use Rattle.std.proofs.lemmas.Slice.Zip.{all_zipped_more}
use Rattle.acfg_base.specs.Bytes.{plus}
use Rattle.acfg_dump.specs.declared.conditions.Condition.{Condition}
use Rattle.acfg_dump.specs.Bodies.{AlternativesFail, ConditionsFail}
use Rattle.acfg_dump.specs.Filter.{extent, pieces, IsCondition}
use Rattle.acfg_dump.proofs.Extents.{extents_each, piece, words}
use Rattle.acfg_dump.proofs.OneCondition.{all_alternatives, fault_among}
use Rattle.acfg_dump.proofs.filter.read_alternatives.Goals as goal

pub overflow_add-before : goal.overflow_add-before
overflow_add-before c =
    let here = piece c.args.texts.now c.loop-index.index (record { ref_ptr = (0, 0); now = [] }) c.loop-index-test.true in
    omega (arith, here.place, here.room, c.loop-index.invariant.bytes, c.requires, c.ranges.length.fits)

pub read_alternative-requires : goal.read_alternative-requires
read_alternative-requires c =
    let here = piece c.args.texts.now c.loop-index.index (record { ref_ptr = (0, 0); now = [] }) c.loop-index-test.true in
    omega (arith, here.place, here.room, c.loop-index.invariant.bytes, c.requires, c.ranges.length.fits)

pub returns-in_err-read_alternative-clause-err : goal.returns-in_err-read_alternative-clause-err
returns-in_err-read_alternative-clause-err c =
    let p = err_from_is_err_and c.from_residual.result c.from_residual.ensures.1 in
    let index = c.loop-index.index in
    let texts = words c.args.texts.now in
    let text = (get_or c.args.texts.now index (record { ref_ptr = (0, 0); now = [] })).now in
    let here = piece c.args.texts.now index (record { ref_ptr = (0, 0); now = [] }) c.loop-index-test.true in
    let cut : map (pieces plus) texts ≡ map (pieces plus) (take index texts) ++ pieces plus text ∷ map (pieces plus) (drop (suc index) texts) =
    ap (map (pieces plus)) here.cut ∙ map-append (pieces plus) (take index texts) (text ∷ drop (suc index) texts) in
    let start : sum_by extent (map (pieces plus) (take index texts)) ≡ c.loop-index.before + index =
    extents_each plus (take index texts) ∙ sym here.place ∙ ap (λ n. n + index) c.loop-index.invariant.bytes in
    rw (p.1, p.2) (fault_among (map (pieces plus) texts) (map (pieces plus) (take index texts)) (pieces plus text) (map (pieces plus) (drop (suc index) texts)) (c.loop-index.before + index)
    cut (all_alternatives _ c.loop-index.alternatives c.loop-index.invariant.read) start c.in_err-read_alternative.field-0.0 c.in_err-read_alternative.ensures.err)

pub overflow_add-before-in-loop-index : goal.overflow_add-before-in-loop-index
overflow_add-before-in-loop-index c =
    let here = piece c.args.texts.now c.loop-index.index (record { ref_ptr = (0, 0); now = [] }) c.loop-index-test.true in
    omega (arith, here.place, here.room, c.loop-index.invariant.bytes, c.requires, c.ranges.length.fits)

pub loop-index-preserved : goal.loop-index-preserved
loop-index-preserved c =
    let index = c.loop-index.index in
    let texts = words c.args.texts.now in
    let text = (get_or c.args.texts.now index (record { ref_ptr = (0, 0); now = [] })).now in
    let here = piece c.args.texts.now index (record { ref_ptr = (0, 0); now = [] }) c.loop-index-test.true in
    let next : map (pieces plus) (take (index + 1) texts) ≡ map (pieces plus) (take index texts) ++ pieces plus text ∷ [] =
    ap (map (pieces plus)) here.next ∙ map-append (pieces plus) (take index texts) (text ∷ []) in
    record {
      read = subst (λ (both : List (List (List ℕ)) × List (List Condition)). AllZip (AllZip IsCondition) both.0 both.1) (λ j. (sym next j, sym c.in_ok-push.ensures.ok j))
          (all_zipped_more (AllZip IsCondition) _ c.loop-index.alternatives (pieces plus text) c.in_ok-read_alternative.field-0 c.loop-index.invariant.read c.in_ok-read_alternative.ensures.ok);
      bytes = omega (arith, here.more, c.loop-index.invariant.bytes);
    }

pub returns-clause-ok : goal.returns-clause-ok
returns-clause-ok c =
    let texts = words c.args.texts.now in
    let all : take c.loop-index.index texts ≡ texts = take_all c.loop-index.index texts (omega (arith, c.loop-index-test.false, length-map c.args.texts.now (λ text. text.now))) in
    subst (λ (taken : List (List ℕ)). AllZip (AllZip IsCondition) (map (pieces plus) taken) c.loop-index.alternatives) all c.loop-index.invariant.read
