use Rattle.std.proofs.Common.{◌≡◌, ◌∙◌, ◌+◌, ◌++◌, map, drop, append_assoc, sym, ap, subst}
use Rattle.std.specs.Prelude.{All}
use Rattle.std.proofs.lemmas.List.{take_all}
use Rattle.std.proofs.lemmas.List.Elements.{All-more}
use Rattle.acfg_decls.specs.Flags.{AreFlags}
use Rattle.acfg_cache.specs.Rows.{rows_of, rows_read}
use Rattle.acfg_cache.proofs.RowLists.{rows_next}
use Rattle.acfg_cache.proofs.merging.list_rows.Goals as goal

pub loop-list-preserved : goal.loop-list-preserved
loop-list-preserved c =
    let lists = c.args.lists.now in
    let i = c.loop-list.list in
    let flags = c.index-lists-list.result in
    let added : rows_read c.add_rows.new.rows.items ≡ rows_read c.loop-list.rows.items ++ map (λ flag. (i, flag)) flags = c.in_ok-add_rows.ensures ∙ ap (λ fs. rows_read c.loop-list.rows.items ++ map (λ flag. (i, flag)) fs) c.list.ensures.all in
    let rest = rows_of (i + 1) (drop (i + 1) lists) in
    record {
      rows = ap (λ rows. rows ++ rest) added ∙ append_assoc (rows_read c.loop-list.rows.items) (map (λ flag. (i, flag)) flags) rest
          ∙ ap (λ rows. rows_read c.loop-list.rows.items ++ rows) (sym (rows_next lists i flags c.loop-list-test.true c.index-lists-list.is)) ∙ c.loop-list.invariant.rows;
      lawful = All-more AreFlags lists i flags c.loop-list-test.true c.loop-list.invariant.lawful (subst AreFlags c.index-lists-list.is c.list.ensures.lawful);
    }

pub returns-clause-lawful : goal.returns-clause-lawful
returns-clause-lawful c = subst (All AreFlags) (take_all c.loop-list.list c.args.lists.now c.loop-list-test.false) c.loop-list.invariant.lawful
