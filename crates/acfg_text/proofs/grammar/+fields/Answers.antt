use Rattle.std.proofs.Common.{◌∙◌, ◌+◌, sym, ap, subst, refl, arith, true, false}
use Rattle.std.proofs.lemmas.Result.{err_from_is_err_and}
use Rattle.acfg_text.specs.Trees.{item, tree}
use Rattle.acfg_text.specs.Reading.{cursor, ahead, ReadsHeld, ReadsColon, ReadsList, ReadsElement, FailsElement}
use Rattle.acfg_text.specs.Machine.{at_item, st, run}
use Rattle.acfg_text.specs.declared.fault.TextWhat.TheVariants.{Unexpected}
use Rattle.acfg_text.proofs.Failures.{at_weaker}
use Rattle.acfg_text.proofs.Parts.{field_read, field_fails, held_colon, held_colon_fails, held_message, held_message_fails, held_list, held_list_fails, held_none, held_end, colon_value, colon_message_fails, colon_scalar_fails, colon_list, colon_list_fails, colon_end, no_opening, list_empty, list_begins, element_value, element_message_fails, element_none, element_list, element_end, message_deep, message_read, message_fields_fail, message_close_fails}
use Rattle.acfg_text.proofs.grammar.+fields.Goals as goal

pub read_element-returns-in_default-clause-err : goal.read_element-returns-in_default-clause-err
read_element-returns-in_default-clause-err t c = element_end c.args.tokens.now c.args.end c.args.depth c.args.at c.args.colon c.in_default.ensures.ahead

pub read_element-returns-in_err-value-in-Open-clause-err : goal.read_element-returns-in_err-value-in-Open-clause-err
read_element-returns-in_err-value-in-Open-clause-err t c =
    let p = err_from_is_err_and c.from_residual.result c.from_residual.ensures.1 in
    rw (p.1, p.2) (at_weaker c.in_err-value-in-Open.field-0.0 _ _ (λ q w f. element_message_fails c.args.tokens.now c.args.end c.args.depth c.args.at q w c.args.colon f) c.in_err-value-in-Open.ensures.err)

pub read_element-returns-then-not-colon : goal.read_element-returns-then-not-colon
read_element-returns-then-not-colon t c = record { ok = tt; within = tt; err = subst (λ b. FailsElement (cursor c.args.tokens.now c.args.end c.args.depth c.args.at) b c.in-Some.seen.place Unexpected) (sym c.if-not-colon.true) (element_none c.args.tokens.now c.args.end c.args.depth c.args.at c.in-Some.seen c.in-Some.ensures.ahead c.in_default-class.not-Open) }

pub read_element-read_scalar-requires : goal.read_element-read_scalar-requires
read_element-read_scalar-requires t c = record { plain = c.requires.plain; within = c.in-Some.ensures.within; next = c.in-Some.ensures.ahead; ascii = c.in-Some.ensures.plain; opens = no_opening c.in-Some.seen.class c.in_default-class.not-Open c.in_default-class.not-OpenList }

pub read_element-returns-in_ok-value-in-Open-clause-ok : goal.read_element-returns-in_ok-value-in-Open-clause-ok
read_element-returns-in_ok-value-in-Open-clause-ok t c = element_value c.args.tokens.now c.args.end c.args.depth c.args.at c.in_ok-value-in-Open.next c.args.colon c.in_ok-value-in-Open.value (c.in_ok-value-in-Open.ensures.ok c.args.colon)

pub read_element-returns-in_ok-value-in_default-class : goal.read_element-returns-in_ok-value-in_default-class
read_element-returns-in_ok-value-in_default-class t c = record { ok = subst (λ b. ReadsElement (cursor c.args.tokens.now c.args.end c.args.depth c.args.at) b c.in_ok-value-in_default-class.value c.in_ok-value-in_default-class.next) (sym c.if-not-colon.false) (element_value c.args.tokens.now c.args.end c.args.depth c.args.at c.in_ok-value-in_default-class.next true c.in_ok-value-in_default-class.value (c.in_ok-value-in_default-class.ensures.ok c.args.depth)); within = c.in_ok-value-in_default-class.ensures.within; err = tt }

pub read_field-returns-in_err-listed-clause-err : goal.read_field-returns-in_err-listed-clause-err
read_field-returns-in_err-listed-clause-err t c =
    let p = err_from_is_err_and c.from_residual.result c.from_residual.ensures.1 in
    rw (p.1, p.2) (at_weaker c.in_err-listed.field-0.0 _ _ (λ q w f. field_fails c.args.tokens.now c.args.end c.args.depth c.args.at c.args.name q w c.requires.next c.requires.word f) c.in_err-listed.ensures.err)

pub read_field-returns-clause-ok : goal.read_field-returns-clause-ok
unfolding item
read_field-returns-clause-ok t c = field_read c.args.tokens.now c.args.end c.args.depth c.args.at c.in_ok-listed.next c.skip_end.result c.args.name c.in_ok-listed.listed c.in_ok-listed.values _ c.requires.next c.requires.word c.in_ok-listed.ensures.ok c.skip_end.ensures.leads (ap (λ x. item x c.args.name.place c.in_ok-listed.listed c.in_ok-listed.values) (sym c.in_ok-text.ensures))

pub read_held-returns-in_default-clause-err : goal.read_held-returns-in_default-clause-err
read_held-returns-in_default-clause-err t c = held_end c.args.tokens.now c.args.end c.args.depth c.args.at c.in_default.ensures.ahead

pub read_held-returns-in_err-listed-in-Colon-clause-err : goal.read_held-returns-in_err-listed-in-Colon-clause-err
read_held-returns-in_err-listed-in-Colon-clause-err t c =
    let p = err_from_is_err_and c.from_residual.result c.from_residual.ensures.1 in
    rw (p.1, p.2) (at_weaker c.in_err-listed-in-Colon.field-0.0 _ _ (λ q w f. held_colon_fails c.args.tokens.now c.args.end c.args.depth c.args.at c.in-Some.seen q w c.in-Some.ensures.ahead c.in-Colon.is f) c.in_err-listed-in-Colon.ensures.err)

pub read_held-returns-in_err-value-in-Open-clause-err : goal.read_held-returns-in_err-value-in-Open-clause-err
read_held-returns-in_err-value-in-Open-clause-err t c =
    let p = err_from_is_err_and c.from_residual-in_err-value-in-Open.result c.from_residual-in_err-value-in-Open.ensures.1 in
    rw (p.1, p.2) (at_weaker c.in_err-value-in-Open.field-0.0 _ _ (λ q w f. held_message_fails c.args.tokens.now c.args.end c.args.depth c.args.at q w f) c.in_err-value-in-Open.ensures.err)

pub read_held-returns-in_err-values-in-OpenList-clause-err : goal.read_held-returns-in_err-values-in-OpenList-clause-err
read_held-returns-in_err-values-in-OpenList-clause-err t c =
    let p = err_from_is_err_and c.from_residual-in_err-values-in-OpenList.result c.from_residual-in_err-values-in-OpenList.ensures.1 in
    rw (p.1, p.2) (at_weaker c.in_err-values-in-OpenList.field-0.0 _ _ (λ q w f. held_list_fails c.args.tokens.now c.args.end c.args.depth c.args.at c.in-Some.seen q w c.in-Some.ensures.ahead c.in-OpenList.is f) c.in_err-values-in-OpenList.ensures.err)

pub read_held-returns-in_ok-listed-in-Colon-clause-ok : goal.read_held-returns-in_ok-listed-in-Colon-clause-ok
read_held-returns-in_ok-listed-in-Colon-clause-ok t c = held_colon c.args.tokens.now c.args.end c.args.depth c.args.at c.in_ok-listed-in-Colon.next c.in-Some.seen c.in_ok-listed-in-Colon.listed c.in_ok-listed-in-Colon.values c.in-Some.ensures.ahead c.in-Colon.is c.in_ok-listed-in-Colon.ensures.ok

pub read_held-returns-in_ok-only-in-Open-clause-ok : goal.read_held-returns-in_ok-only-in-Open-clause-ok
read_held-returns-in_ok-only-in-Open-clause-ok t c = subst (λ l. ReadsHeld (cursor c.args.tokens.now c.args.end c.args.depth c.args.at) false l c.in_ok-value-in-Open.next) (sym c.in_ok-only-in-Open.ensures) (held_message c.args.tokens.now c.args.end c.args.depth c.args.at c.in_ok-value-in-Open.next c.in_ok-value-in-Open.value c.in_ok-value-in-Open.ensures.ok)

pub read_held-returns-in_ok-values-in-OpenList-clause-ok : goal.read_held-returns-in_ok-values-in-OpenList-clause-ok
read_held-returns-in_ok-values-in-OpenList-clause-ok t c = held_list c.args.tokens.now c.args.end c.args.depth c.args.at c.in_ok-values-in-OpenList.next c.in-Some.seen c.in_ok-values-in-OpenList.values c.in-Some.ensures.ahead c.in-OpenList.is c.in_ok-values-in-OpenList.ensures.ok

pub read_held-returns-in_default-class : goal.read_held-returns-in_default-class
read_held-returns-in_default-class t c = record { ok = tt; within = tt; err = held_none c.args.tokens.now c.args.end c.args.depth c.args.at c.in-Some.seen c.in-Some.ensures.ahead c.in_default-class.not-Colon c.in_default-class.not-Open c.in_default-class.not-OpenList }

pub read_list-returns-then-closes_list-clause-ok : goal.read_list-returns-then-closes_list-clause-ok
read_list-returns-then-closes_list-clause-ok t c = subst (λ l. ReadsList (cursor c.args.tokens.now c.args.end c.args.depth c.args.from) c.args.colon l (c.args.from + 1)) (sym c.new-values.ensures) (list_empty c.args.tokens.now c.args.end c.args.depth c.args.from c.args.colon c.if-closes_list.ensures.yes)

pub read_list-loop-more-init : goal.read_list-loop-more-init
read_list-loop-more-init t c = record { above = omega arith; within = c.requires.within; leads = λ h top frames d. list_begins c.args.tokens.now c.args.end c.args.depth c.args.from c.args.colon c.if-closes_list.ensures.no h top frames d ∙ ap (λ l. run true c.args.end (ahead c.args.tokens.now c.args.from) (st (at_item h c.args.colon l) top frames)) (sym c.new-values.ensures) }

pub read_message-returns-then-depth-ge-MOST_OPEN-clause-err : goal.read_message-returns-then-depth-ge-MOST_OPEN-clause-err
read_message-returns-then-depth-ge-MOST_OPEN-clause-err t c = message_deep c.args.tokens.now c.args.end c.args.depth c.args.at c.args.opening c.args.bracket c.requires.next c.requires.opens c.if-depth-ge-MOST_OPEN.true

pub read_message-returns-in_err-items-clause-err : goal.read_message-returns-in_err-items-clause-err
read_message-returns-in_err-items-clause-err t c =
    let p = err_from_is_err_and c.from_residual.result c.from_residual.ensures.1 in
    rw (p.1, p.2) (at_weaker c.in_err-items.field-0.0 _ _ (λ q w f. message_fields_fail c.args.tokens.now c.args.end c.args.depth c.args.at c.args.opening c.args.bracket q w c.requires.next c.requires.opens c.if-depth-ge-MOST_OPEN.false f) c.in_err-items.ensures.err)

pub read_message-returns-in_err-place-clause-err : goal.read_message-returns-in_err-place-clause-err
read_message-returns-in_err-place-clause-err t c =
    let p = err_from_is_err_and c.from_residual-in_err-place.result c.from_residual-in_err-place.ensures.1 in
    rw (p.1, p.2) (at_weaker c.in_err-place.field-0.0 _ _ (λ q w f. message_close_fails c.args.tokens.now c.args.end c.args.depth c.args.at c.in_ok-items.close c.args.opening c.args.bracket c.in_ok-items.items q w c.requires.next c.requires.opens c.if-depth-ge-MOST_OPEN.false c.in_ok-items.ensures.ok f) c.in_err-place.ensures.err)

pub read_message-returns-clause-ok : goal.read_message-returns-clause-ok
unfolding tree
read_message-returns-clause-ok t c = message_read c.args.tokens.now c.args.end c.args.depth c.args.at c.in_ok-items.close c.in_ok-place.place c.args.opening c.args.bracket c.in_ok-items.items _ c.requires.next c.requires.opens c.if-depth-ge-MOST_OPEN.false c.in_ok-items.ensures.ok c.in_ok-place.ensures.ok refl

pub read_valued-returns-in_default-clause-err : goal.read_valued-returns-in_default-clause-err
read_valued-returns-in_default-clause-err t c = colon_end c.args.tokens.now c.args.end c.args.depth c.args.at c.in_default.ensures.ahead

pub read_valued-returns-in_err-value-in-Open-clause-err : goal.read_valued-returns-in_err-value-in-Open-clause-err
read_valued-returns-in_err-value-in-Open-clause-err t c =
    let p = err_from_is_err_and c.from_residual.result c.from_residual.ensures.1 in
    rw (p.1, p.2) (at_weaker c.in_err-value-in-Open.field-0.0 _ _ (λ q w f. colon_message_fails c.args.tokens.now c.args.end c.args.depth c.args.at q w f) c.in_err-value-in-Open.ensures.err)

pub read_valued-returns-in_err-values-in-OpenList-clause-err : goal.read_valued-returns-in_err-values-in-OpenList-clause-err
read_valued-returns-in_err-values-in-OpenList-clause-err t c =
    let p = err_from_is_err_and c.from_residual-in_err-values-in-OpenList.result c.from_residual-in_err-values-in-OpenList.ensures.1 in
    rw (p.1, p.2) (at_weaker c.in_err-values-in-OpenList.field-0.0 _ _ (λ q w f. colon_list_fails c.args.tokens.now c.args.end c.args.depth c.args.at c.in-Some.seen q w c.in-Some.ensures.ahead c.in-OpenList.is f) c.in_err-values-in-OpenList.ensures.err)

pub read_valued-returns-in_err-value-in_default-class : goal.read_valued-returns-in_err-value-in_default-class
read_valued-returns-in_err-value-in_default-class t c = let p = err_from_is_err_and c.from_residual-in_err-value-in_default-class.result c.from_residual-in_err-value-in_default-class.ensures.1 in rw (p.1, p.2) (record { ok = tt; within = tt; err = at_weaker c.in_err-value-in_default-class.field-0.0 _ _ (λ q w f. colon_scalar_fails c.args.tokens.now c.args.end c.args.depth c.args.at q w (f c.args.depth)) c.in_err-value-in_default-class.ensures.err })

pub read_valued-returns-in_ok-only-in-Open-clause-ok : goal.read_valued-returns-in_ok-only-in-Open-clause-ok
read_valued-returns-in_ok-only-in-Open-clause-ok t c = subst (λ l. ReadsColon (cursor c.args.tokens.now c.args.end c.args.depth c.args.at) false l c.in_ok-value-in-Open.next) (sym c.in_ok-only-in-Open.ensures) (colon_value c.args.tokens.now c.args.end c.args.depth c.args.at c.in_ok-value-in-Open.next c.in_ok-value-in-Open.value (c.in_ok-value-in-Open.ensures.ok true))

pub read_valued-returns-in_ok-values-in-OpenList-clause-ok : goal.read_valued-returns-in_ok-values-in-OpenList-clause-ok
read_valued-returns-in_ok-values-in-OpenList-clause-ok t c = colon_list c.args.tokens.now c.args.end c.args.depth c.args.at c.in_ok-values-in-OpenList.next c.in-Some.seen c.in_ok-values-in-OpenList.values c.in-Some.ensures.ahead c.in-OpenList.is c.in_ok-values-in-OpenList.ensures.ok

pub read_valued-returns-in_ok-only-in_default-class : goal.read_valued-returns-in_ok-only-in_default-class
read_valued-returns-in_ok-only-in_default-class t c = record { ok = subst (λ l. ReadsColon (cursor c.args.tokens.now c.args.end c.args.depth c.args.at) false l c.in_ok-value-in_default-class.next) (sym c.in_ok-only-in_default-class.ensures) (colon_value c.args.tokens.now c.args.end c.args.depth c.args.at c.in_ok-value-in_default-class.next c.in_ok-value-in_default-class.value (c.in_ok-value-in_default-class.ensures.ok c.args.depth)); within = c.in_ok-value-in_default-class.ensures.within; err = tt }

pub read_element-returns-in-OpenList-clause-err : goal.read_element-returns-in-OpenList-clause-err
read_element-returns-in-OpenList-clause-err t c = element_list c.args.tokens.now c.args.end c.args.depth c.args.at c.args.colon c.in-Some.seen c.in-Some.ensures.ahead c.in-OpenList.is
