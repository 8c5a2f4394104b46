use Rattle.std.proofs.Common.{◌≡◌, ◌+◌, ◌-◌, ◌<◌, ◌∙◌, ◌++◌, [], ◌∷◌, List, drop, length, take, append-nil, refl, sym, ap, subst, arith}
use Rattle.std.specs.Prelude.{All}
use Rattle.std.proofs.Math.ListN.{drop_of_length-le}
use Rattle.std.proofs.lemmas.List.{drop-set-lt, length-set, take_all, take_more_set}
use Rattle.std.proofs.lemmas.List.Elements.{All-push}
use Rattle.acfg_wire.specs.declared.field.Field.{Field}
use Rattle.acfg_wire.specs.Laid.{laid_of}
use Rattle.acfg_cache.specs.Parts.{parts_in}
use Rattle.acfg_cache.specs.Bodies.{EndsWithin, parts_read}
use Rattle.acfg_cache.proofs.Opened.{content_ends, end_same, ends_within, got_same, placed_next, rest_same}
use Rattle.acfg_cache.proofs.parts.place_fields.Goals as goal

pub overflow_sub-placed : goal.overflow_sub-placed
overflow_sub-placed c =
    let bytes = c.args.bytes.now in
    let old = c.args.fields.now in
    let now = c.loop-i.fields in
    let i = c.loop-i.i in
    let field = c.field_at-field.result in
    let got = got_same now old i c.loop-i.invariant.rest ∙ c.field_at-field.ensures in
    let ends = c.end_at.ensures ∙ end_same (length bytes) now old i c.loop-i.invariant.rest in
    content_ends bytes old i field c.end_at.result c.content_len-len.result c.requires.lie got ends c.content_len-len.ensures

pub overflow_add-placed : goal.overflow_add-placed
overflow_add-placed c =
    let bytes = c.args.bytes.now in
    let old = c.args.fields.now in
    let ends = c.end_at.ensures ∙ end_same (length bytes) c.loop-i.fields old c.loop-i.i c.loop-i.invariant.rest in
    let within = ends_within bytes old c.loop-i.i c.end_at.result c.requires.begin ends in
    omega (arith, within, c.requires.room)

pub loop-i-init : goal.loop-i-init
loop-i-init c = record { long = refl; rest = refl; placed = refl; within = λ k d within. absurd (omega (arith, within)) }

pub loop-i-preserved : goal.loop-i-preserved
loop-i-preserved c =
    let bytes = c.args.bytes.now in
    let old = c.args.fields.now in
    let now = c.loop-i.fields in
    let i = c.loop-i.i in
    let field = c.field_at-field.result in
    let got = got_same now old i c.loop-i.invariant.rest ∙ c.field_at-field.ensures in
    let ends = c.end_at.ensures ∙ end_same (length bytes) now old i c.loop-i.invariant.rest in
    let end = c.end_at.result in
    let len = c.content_len-len.result in
    let inside : i < length now = omega (arith, c.loop-i.invariant.long, c.loop-i-test.true) in
    let read : Field = record { number = field.number; place = c.args.at + (end - len); value = field.value } in
    let short = content_ends bytes old i field end len c.requires.lie got ends c.content_len-len.ensures in
    let low = ends_within bytes old i end c.requires.begin ends in
    let fits : EndsWithin read = omega (arith, short, low, c.requires.room, c.content_len-len.ensures) in
    let more : take (i + 1) c.put.new.fields ≡ take i now ++ read ∷ [] = ap (λ (fields : List Field). take (i + 1) fields) c.put.ensures ∙ take_more_set now i read inside in
    record {
      long = ap (λ (fields : List Field). length fields) c.put.ensures ∙ length-set now i read ∙ c.loop-i.invariant.long;
      rest = ap (λ (fields : List Field). drop (i + 1) fields) c.put.ensures ∙ drop-set-lt (i + 1) now i read (omega arith) ∙ rest_same now old i c.loop-i.invariant.rest;
      placed = placed_next c.args.at (length bytes) old i field end len read (take i now) (take (i + 1) c.put.new.fields) got ends c.content_len-len.ensures refl more c.loop-i.invariant.placed;
      within = subst (All EndsWithin) (sym more) (All-push EndsWithin (take i now) read c.loop-i.invariant.within fits);
    }

pub returns-clause-parts : goal.returns-clause-parts
returns-clause-parts c =
    let old = c.args.fields.now in
    let now = c.loop-i.fields in
    let i = c.loop-i.i in
    let all = take_all i now (omega (arith, c.loop-i.invariant.long, c.loop-i-test.false)) in
    let none : drop i old ≡ [] = drop_of_length-le old (omega (arith, c.loop-i-test.false)) in
    sym (ap (λ fields. parts_read fields) all) ∙ sym (append-nil (parts_read (take i now)))
    ∙ sym (ap (λ (fields : List Field). parts_read (take i now) ++ parts_in c.args.at (length c.args.bytes.now) (laid_of fields)) none) ∙ c.loop-i.invariant.placed

pub returns-clause-within : goal.returns-clause-within
returns-clause-within c =
    subst (All EndsWithin) (take_all c.loop-i.i c.loop-i.fields (omega (arith, c.loop-i.invariant.long, c.loop-i-test.false))) c.loop-i.invariant.within

pub returns-clause-long : goal.returns-clause-long
returns-clause-long c = c.loop-i.invariant.long
