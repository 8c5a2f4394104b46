use Rattle.std.proofs.Common.{List, IsPermutation, IsSortedByKey, sym, subst}
use Rattle.std.specs.Borrow.{Bor}
use Rattle.std.specs.Global.{Vec}
use Rattle.std.proofs.lemmas.Result.{IfErr-weaker, IfOk-weaker}
use Rattle.std.proofs.lemmas.List.Sorted.{IsPermutation-map}
use Rattle.acfg_decls.specs.declared.flags.Flag.{Flag}
use Rattle.acfg_cache.specs.declared.merging.Row.{Row}
use Rattle.acfg_cache.specs.Merging.{FirstClashIn, IfClash, IsFirstClash, IsMerged, lent}
use Rattle.acfg_cache.specs.Rows.{InRows, IsTaken, key_order, row_key, row_read, rows_read}
use Rattle.acfg_cache.proofs.RowLists.{AreRowsOf, rows_lawful, rows_moved}
use Rattle.acfg_cache.proofs.RowOrder.{ascends}
use Rattle.acfg_cache.proofs.Taking.{clash_of_lists, clash_weaker, merged_of_lists}
use Rattle.acfg_cache.proofs.merging.join.Goals as goal

pub take_rows-requires-clause-ascend : goal.take_rows-requires-clause-ascend
take_rows-requires-clause-ascend c =
    let lists = c.args.lists.now in
    let rows = c.in_ok-rows.rows.items in
    let sorted = c.deref.result.now in
    let moves = subst (λ (rs : List Row). IsPermutation rows rs) (sym c.deref.ensures.value) c.in_ok-sort_rows.ensures.permutation in
    let are : AreRowsOf lists (rows_read sorted) = rows_moved lists (rows_read rows) (rows_read sorted) c.in_ok-rows.ensures.lawful c.in_ok-rows.ensures.rows (IsPermutation-map row_read rows sorted moves) in
    ascends row_read sorted (subst (λ (rs : List Row). IsSortedByKey (λ row. row_key (row_read row)) key_order rs) (sym c.deref.ensures.value) c.in_ok-sort_rows.ensures.sorted) are.distinct

pub take_rows-requires-clause-lawful : goal.take_rows-requires-clause-lawful
take_rows-requires-clause-lawful c =
    let lists = c.args.lists.now in
    let rows = c.in_ok-rows.rows.items in
    let sorted = c.deref.result.now in
    let moves = subst (λ (rs : List Row). IsPermutation rows rs) (sym c.deref.ensures.value) c.in_ok-sort_rows.ensures.permutation in
    let are : AreRowsOf lists (rows_read sorted) = rows_moved lists (rows_read rows) (rows_read sorted) c.in_ok-rows.ensures.lawful c.in_ok-rows.ensures.rows (IsPermutation-map row_read rows sorted moves) in
    rows_lawful lists (rows_read sorted) c.in_ok-rows.ensures.lawful are

pub returns-clause-ok : goal.returns-clause-ok
returns-clause-ok c =
    let lists = c.args.lists.now in
    let rows = c.in_ok-rows.rows.items in
    let sorted = c.deref.result.now in
    let moves = subst (λ (rs : List Row). IsPermutation rows rs) (sym c.deref.ensures.value) c.in_ok-sort_rows.ensures.permutation in
    let are : AreRowsOf lists (rows_read sorted) = rows_moved lists (rows_read rows) (rows_read sorted) c.in_ok-rows.ensures.lawful c.in_ok-rows.ensures.rows (IsPermutation-map row_read rows sorted moves) in
    IfOk-weaker c.take_rows.result (λ (flags : Vec (Bor Flag)). IsTaken c.args.dedup (rows_read sorted) (lent flags.items)) (λ (flags : Vec (Bor Flag)). IsMerged lists c.args.dedup (lent flags.items))
    (λ flags taken. merged_of_lists lists (rows_read sorted) c.args.dedup (lent flags.items) are taken)
    c.take_rows.ensures.ok

pub returns-clause-err : goal.returns-clause-err
returns-clause-err c =
    let lists = c.args.lists.now in
    let rows = c.in_ok-rows.rows.items in
    let sorted = c.deref.result.now in
    let moves = subst (λ (rs : List Row). IsPermutation rows rs) (sym c.deref.ensures.value) c.in_ok-sort_rows.ensures.permutation in
    let are : AreRowsOf lists (rows_read sorted) = rows_moved lists (rows_read rows) (rows_read sorted) c.in_ok-rows.ensures.lawful c.in_ok-rows.ensures.rows (IsPermutation-map row_read rows sorted moves) in
    IfErr-weaker c.take_rows.result (λ fault. IfClash fault (FirstClashIn (InRows (rows_read sorted)) c.args.dedup)) (λ fault. IfClash fault (IsFirstClash lists c.args.dedup))
    (λ fault. clash_weaker fault (FirstClashIn (InRows (rows_read sorted)) c.args.dedup) (IsFirstClash lists c.args.dedup)
    (λ i name clash. clash_of_lists lists (rows_read sorted) c.args.dedup i name are clash))
    c.take_rows.ensures.err
