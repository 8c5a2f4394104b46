use Rattle.std.proofs.Common.{rules}
use Rattle.std.specs.Ordering.{nat_cmp}
use Rattle.std.proofs.lemmas.Cmp.{nat_cmp_total}
use Rattle.std.proofs.lemmas.Fn.{always_returns_same}
use Rattle.acfg_base.proofs.Rows.{searched}
use Rattle.acfg_store.specs.Keys.{local_index}
use Rattle.acfg_store.proofs.overrides.place_of.Goals as goal

pub returns : goal.returns
returns c =
    let facts = c.binary_search_by.ensures in
    let by_index = facts.position (λ row. nat_cmp (local_index row) c.args.index) (always_returns_same _ _ _ (λ a r f' called. search rules)) in
    searched nat_cmp_total local_index _ c.requires _ c.binary_search_by.result facts.bound by_index
