use Rattle.std.proofs.Common.{◌≡◌, ℕ, ◌<◌, ◌≤◌, ◌∙◌, List, [], length, get_or, sym, ap, subst, arith}
use Rattle.std.proofs.lemmas.List.{get_or-map, length-map, take_all}
use Rattle.std.proofs.lemmas.Result.{err_from_is_err_and}
use Rattle.std.specs.Borrow.{Bor}
use Rattle.acfg_decls.specs.declared.flags.Flag.{Flag}
use Rattle.acfg_cache.specs.declared.merging.Row.{Row}
use Rattle.acfg_cache.specs.Merging.{FirstClashIn, lent}
use Rattle.acfg_cache.specs.Rows.{Adds, InRows, IsClashOf, IsTaken, Listed, row_read, rows_read}
use Rattle.acfg_cache.proofs.Taking.{clash_weaker, first_clash, taken_next, taken_none}
use Rattle.acfg_cache.proofs.merging.take_rows.Goals as goal

-- a row at a place, as it is read
read_at : (rows : List Row) (i : ℕ) (row : Row) → i < length rows → row ≡ get_or rows i row → get_or (rows_read rows) i (row_read row) ≡ row_read row
read_at rows i row within is = get_or-map row_read rows i row (row_read row) within ∙ ap row_read (sym is)

pub loop-row-init : goal.loop-row-init
loop-row-init c = subst (λ (flags : List (Bor Flag)). IsTaken c.args.dedup [] (lent flags)) (sym c.in_ok-flags.ensures.items) (taken_none c.args.dedup)

pub loop-row-preserved : goal.loop-row-preserved
loop-row-preserved c =
    let rows = c.args.rows.now in
    let i = c.loop-row.row-index in
    let row = c.row-item.result in
    let flags = lent c.loop-row.flags.items in
    let after = lent c.add_row.new.flags.items in
    let long = length-map rows row_read in
    let within : i < length (rows_read rows) = omega (arith, long, c.loop-row-test.true) in
    let at = read_at rows i row c.loop-row-test.true c.row-item.is in
    taken_next c.args.dedup (rows_read rows) i (row_read row) flags after c.requires.ascend c.requires.lawful within c.loop-row.invariant
    (subst (λ (r : Listed). Adds c.args.dedup r.1 flags after) (sym at) c.in_ok-add_row.ensures.ok)

pub returns-in_err-add_row-clause-err : goal.returns-in_err-add_row-clause-err
returns-in_err-add_row-clause-err c =
    let p = err_from_is_err_and c.from_residual-in_err-add_row.result c.from_residual-in_err-add_row.ensures.1 in
    let rows = c.args.rows.now in
    let i = c.loop-row.row-index in
    let row = c.row-item.result in
    let flags = lent c.loop-row.flags.items in
    let long = length-map rows row_read in
    let within : i < length (rows_read rows) = omega (arith, long, c.loop-row-test.true) in
    let at = read_at rows i row c.loop-row-test.true c.row-item.is in
    rw (p.1, p.2) (clash_weaker c.in_err-add_row.field-0.0 (IsClashOf c.args.dedup (row_read row) flags) (FirstClashIn (InRows (rows_read rows)) c.args.dedup)
    (λ list name clash. first_clash c.args.dedup (rows_read rows) i (row_read row) flags list name c.requires.ascend within c.loop-row.invariant
    (subst (λ (r : Listed). IsClashOf c.args.dedup r flags list name) (sym at) clash))
    c.in_err-add_row.ensures.err)

pub returns-clause-ok : goal.returns-clause-ok
returns-clause-ok c =
    let rows = c.args.rows.now in
    let long = length-map rows row_read in
    let past : length (rows_read rows) ≤ c.loop-row.row-index = omega (arith, long, c.loop-row-test.false) in
    subst (λ (rs : List Listed). IsTaken c.args.dedup rs (lent c.loop-row.flags.items)) (take_all c.loop-row.row-index (rows_read rows) past) c.loop-row.invariant
