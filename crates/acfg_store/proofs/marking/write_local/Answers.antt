use Rattle.std.proofs.Common.{List, ◌≡◌, ◌<◌, length, map, ◌∙◌, ap, subst, sym}
use Rattle.std.proofs.lemmas.Result.{IfOk-weaker}
use Rattle.acfg_store.specs.declared.locals.LocalOverride.{LocalOverride}
use Rattle.acfg_store.specs.Marked.{local_mark, marked_from}
use Rattle.acfg_store.specs.Records.{locals_bytes}
use Rattle.acfg_store.proofs.MarksHold.{locals_hold, marked_small}
use Rattle.acfg_store.proofs.Writing.{all_within, as_many}
use Rattle.acfg_store.proofs.marking.write_local.Goals as goal

pub table_of-requires-clause-within : goal.table_of-requires-clause-within
table_of-requires-clause-within c = all_within c.requires.0 c.requires.1 c.args.rows.now c.args.indexes.now c.requires.2 c.args.count c.requires.3

pub table_of-requires-clause-each : goal.table_of-requires-clause-each
table_of-requires-clause-each c =
    as_many c.requires.0 c.requires.1 c.args.rows.now c.args.indexes.now c.requires.2 c.args.count c.requires.3 local_mark c.as_slice.result.now (c.as_slice.ensures.value ∙ c.in_ok-marks.ensures)

pub write_locals-requires : goal.write_locals-requires
write_locals-requires c =
    let same : c.as_slice-3.result.now ≡ marked_from 0 c.in_ok-table.table.items = c.as_slice-3.ensures.value ∙ c.in_ok-overrides.ensures ∙ ap (marked_from 0) c.as_slice-2.ensures.value in
    subst (λ (rows : List LocalOverride). length rows < 4294967296) (sym same) (marked_small c.in_ok-table.table.items c.args.count c.in_ok-table.ensures.size c.ranges.count.fits)

pub returns : goal.returns
returns c =
    let same : c.as_slice-3.result.now ≡ marked_from 0 c.in_ok-table.table.items = c.as_slice-3.ensures.value ∙ c.in_ok-overrides.ensures ∙ ap (marked_from 0) c.as_slice-2.ensures.value in
    let marks : c.as_slice.result.now ≡ map local_mark c.args.rows.now = c.as_slice.ensures.value ∙ c.in_ok-marks.ensures in
    IfOk-weaker c.write_locals.result _ _ (λ made is set parts are count_is.
    locals_hold set parts c.args.rows.now c.args.indexes.now are c.args.count count_is c.ranges.count.fits c.as_slice.result.now c.in_ok-table.table.items marks c.in_ok-table.ensures.put c.in_ok-table.ensures.size made.items
    (is ∙ ap locals_bytes same)) c.write_locals.ensures
