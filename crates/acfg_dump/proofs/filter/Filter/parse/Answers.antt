use Rattle.std.proofs.Common.{◌≡◌, ◌+◌, ◌≤◌, List, ℕ, Bool, true, false, length, map, rules, codes, refl, sym, ap, subst, ◌∙◌, inl, inr, arith}
use Rattle.std.specs.List.{AllZip}
use Rattle.std.specs.Str.{bytes_eq}
use Rattle.std.proofs.lemmas.Result.{err_from_is_err_and}
use Rattle.acfg_base.specs.Bytes.{plus, comma}
use Rattle.acfg_dump.specs.Filter.{condition_texts, extent, pieces, IsCondition}
use Rattle.acfg_dump.proofs.Extents.{extent_pieces, words}
use Rattle.acfg_dump.proofs.OneCondition.{filter_fault}
use Rattle.acfg_dump.proofs.filter.Filter.parse.Goals as goal

not_all : (text : List ℕ) → false ≡ bytes_eq text (codes "all") → text ≡ codes "all" → ⊥
not_all text is same = let no : false ≡ true = is ∙ ap (λ t. bytes_eq t (codes "all")) same in cc

pub returns-then-eq-clause-ok : goal.returns-then-eq-clause-ok
returns-then-eq-clause-ok c = let same : c.args.text.now ≡ codes "all" = search (rules, c.if-eq.ensures) in inl (same, c.in_ok-all_flags.ensures)

pub read_alternatives-requires : goal.read_alternatives-requires
read_alternatives-requires c =
    let bytes : extent (words c.deref.result.now) ≡ length c.args.text.now + 1 =
    ap (λ texts. extent (words texts)) c.deref.ensures.value ∙ ap extent c.in_ok-texts.ensures ∙ extent_pieces comma c.args.text.now in
    bytes

pub returns-in_err-alternatives-clause-err : goal.returns-in_err-alternatives-clause-err
returns-in_err-alternatives-clause-err c =
    let p = err_from_is_err_and c.from_residual-in_err-alternatives.result c.from_residual-in_err-alternatives.ensures.1 in
    let other : c.args.text.now ≡ codes "all" → ⊥ = not_all c.args.text.now c.if-eq.ensures in
    let texts : map (pieces plus) (words c.deref.result.now) ≡ condition_texts c.args.text.now =
    ap (λ texts. map (pieces plus) (words texts)) c.deref.ensures.value ∙ ap (map (pieces plus)) c.in_ok-texts.ensures in
    rw (p.1, p.2) (filter_fault c.args.text.now _ texts other c.in_err-alternatives.field-0.0 c.in_err-alternatives.ensures.err)

pub returns-clause-ok : goal.returns-clause-ok
returns-clause-ok c =
    let other : c.args.text.now ≡ codes "all" → ⊥ = not_all c.args.text.now c.if-eq.ensures in
    let texts : map (pieces plus) (words c.deref.result.now) ≡ condition_texts c.args.text.now =
    ap (λ texts. map (pieces plus) (words texts)) c.deref.ensures.value ∙ ap (map (pieces plus)) c.in_ok-texts.ensures in
    inr (other, subst (λ t. AllZip (AllZip IsCondition) t c.in_ok-alternatives.alternatives) texts c.in_ok-alternatives.ensures.ok)
