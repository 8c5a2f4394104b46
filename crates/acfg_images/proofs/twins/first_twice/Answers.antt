use Rattle.std.proofs.Common.{map, sym, subst}
use Rattle.std.specs.Prelude.{IsPermutation}
use Rattle.std.specs.List.Sorted.{IsSorted}
use Rattle.acfg_images.specs.Twins.{row_of, row_cmp}
use Rattle.acfg_images.proofs.TwinRows.{least_twin_is}
use Rattle.acfg_images.proofs.twins.first_twice.Goals as goal

pub returns : goal.returns
returns c =
    let links = c.args.links.now in
    let perm = subst (IsPermutation (map row_of links)) (sym c.deref.ensures.value) c.in_ok-rows.ensures.permutation in
    let sorted = subst (IsSorted row_cmp) (sym c.deref.ensures.value) c.in_ok-rows.ensures.sorted in
    least_twin_is links c.requires.buckets.0 c.requires.buckets.1 c.requires.rising c.deref.result.now perm sorted c.least_twin.result c.least_twin.ensures
