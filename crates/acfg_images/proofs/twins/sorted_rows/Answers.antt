use Rattle.std.proofs.Common.{◌≡◌, length, sym, ap, subst, ◌∙◌, rules}
use Rattle.std.specs.List.Sorted.{IsSorted}
use Rattle.std.proofs.lemmas.List.Sorted.{length_permutation}
use Rattle.acfg_images.specs.Twins.{row_cmp}
use Rattle.acfg_images.proofs.TwinRows.{written}
use Rattle.acfg_images.proofs.twins.sorted_rows.Goals as goal

pub returns-clause-sorted : goal.returns-clause-sorted
returns-clause-sorted c =
    let items = c.in_ok-rows.rows.items in
    let new = c.sort_rows.new.rows in
    let size : c.in_ok-rows.rows.len ≡ length items = search rules in
    let same : length new ≡ length items = length_permutation _ _ c.sort_rows.ensures.permutation ∙ ap length c.deref_mut.ensures.value in
    subst (IsSorted row_cmp) (sym (written new items c.in_ok-rows.rows.len size same)) c.sort_rows.ensures.sorted
