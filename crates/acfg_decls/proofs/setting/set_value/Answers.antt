use Rattle.std.proofs.Common.{rules, ◌≡◌, ◌&&◌, set, Some, refl, sym, ap, ◌∙◌, inl, inr, arith}
use Rattle.std.proofs.lemmas.List.{get_or_default}
use Rattle.std.proofs.Math.Seq.{map-set_same}
use Rattle.acfg_decls.specs.Places.{at, with_point}
use Rattle.acfg_decls.proofs.Blank.{blank}
use Rattle.acfg_decls.proofs.Applied.{alike, both_true, differ, of_another, of_none, frees_none, within, of_one, frees_one, frees_other}
use Rattle.acfg_decls.proofs.setting.set_value.Goals as goal

pub returns-then-ne-clause-made : goal.returns-then-ne-clause-made
returns-then-ne-clause-made c =
    of_another c.args.package.now c.args.places.now c.args.flags.now.items c.args.source.now c.args.value.now c.requires
    (λ same. differ _ _ c.ne.result c.ne.ensures c.if-ne.true (c.as_str-3.ensures ∙ same ∙ sym c.as_str-4.ensures.text))

pub returns-in_default-clause-made : goal.returns-in_default-clause-made
returns-in_default-clause-made c =
    of_none c.args.package.now c.args.places.now c.args.flags.now.items c.args.source.now c.args.value.now c.requires (ap (at c.args.places.now) (sym c.as_str-5.ensures) ∙ sym c.in_default.ensures.value)

pub returns-in_default-clause-passed : goal.returns-in_default-clause-passed
returns-in_default-clause-passed c = λ container set declared made.
    (search rules, (search rules, (frees_none c.args.package.now c.args.places.now c.args.flags.now.items c.args.source.now c.args.value.now c.requires (ap (at c.args.places.now) (sym c.as_str-5.ensures) ∙ sym c.in_default.ensures.value) container set declared made, tt)))

pub index_mut-flag-requires : goal.index_mut-flag-requires
index_mut-flag-requires c =
    let found : at c.args.places.now c.args.value.now.name.text ≡ Some c.in-Some.field-0.now = ap (at c.args.places.now) (sym c.as_str-5.ensures) ∙ sym c.in-Some.ensures.value in
    omega (arith, within c.args.package.now c.args.places.now c.args.flags.now.items c.args.source.now c.args.value.now c.requires c.in-Some.field-0.now found)

pub returns-then-is_freed-clause-err : goal.returns-then-is_freed-clause-err
returns-then-is_freed-clause-err c = λ container set declared made.
    let place = c.in-Some.field-0.now in
    let flags = c.args.flags.now.items in
    let found : at c.args.places.now c.args.value.now.name.text ≡ Some place = ap (at c.args.places.now) (sym c.as_str-5.ensures) ∙ sym c.in-Some.ensures.value in
    let inside = within c.args.package.now c.args.places.now flags c.args.source.now c.args.value.now c.requires place found in
    let here = c.index_mut-flag.ensures.value ∙ get_or_default flags place c.index_mut-flag.result.now blank inside in
    let freed = both_true c.index_mut-flag.result.now.fixed c.args.value.now.writable (sym c.is_freed.ensures ∙ c.if-is_freed.true) in
    let same = sym c.as_str-3.ensures ∙ alike _ _ c.ne.result c.ne.ensures c.if-ne.false ∙ c.as_str-4.ensures.text in
    inr (search rules, inr (search rules, inl ((λ free. free (frees_one c.args.package.now c.args.places.now flags c.args.source.now c.args.value.now c.requires place found same freed.1 (ap (λ flag. flag.fixed) (sym here) ∙ freed.0) container set declared made)), refl, refl)))

pub returns-clause-names : goal.returns-clause-names
returns-clause-names c =
    let place = c.in-Some.field-0.now in
    let flags = c.args.flags.now.items in
    map-set_same (λ flag. flag.name) flags place c.add_point.new.flag c.index_mut-flag.result.now (ap (λ flag. flag.name) c.in_ok-add_point.ensures ∙ ap (λ flag. flag.name) c.index_mut-flag.ensures.value)

pub returns-clause-made : goal.returns-clause-made
returns-clause-made c = λ container values declared made.
    let place = c.in-Some.field-0.now in
    let flags = c.args.flags.now.items in
    let found : at c.args.places.now c.args.value.now.name.text ≡ Some place = ap (at c.args.places.now) (sym c.as_str-5.ensures) ∙ sym c.in-Some.ensures.value in
    let same = sym c.as_str-3.ensures ∙ alike _ _ c.ne.result c.ne.ensures c.if-ne.false ∙ c.as_str-4.ensures.text in
    ap (set flags place) (c.in_ok-add_point.ensures ∙ ap (λ flag. with_point flag (c.args.source.now, c.args.value.now)) c.index_mut-flag.ensures.value)
    ∙ of_one c.args.package.now c.args.places.now flags c.args.source.now c.args.value.now c.requires place found c.index_mut-flag.result.now same container values declared made

pub returns-clause-passed : goal.returns-clause-passed
returns-clause-passed c = λ container set declared made.
    let place = c.in-Some.field-0.now in
    let flags = c.args.flags.now.items in
    let found : at c.args.places.now c.args.value.now.name.text ≡ Some place = ap (at c.args.places.now) (sym c.as_str-5.ensures) ∙ sym c.in-Some.ensures.value in
    let inside = within c.args.package.now c.args.places.now flags c.args.source.now c.args.value.now c.requires place found in
    let here = c.index_mut-flag.ensures.value ∙ get_or_default flags place c.index_mut-flag.result.now blank inside in
    let safe = ap (λ flag. flag.fixed && c.args.value.now.writable) (sym here) ∙ sym c.is_freed.ensures ∙ c.if-is_freed.false in
    (search rules, (search rules, (frees_other c.args.package.now c.args.places.now flags c.args.source.now c.args.value.now c.requires place found safe container set declared made, tt)))
