use Rattle.std.proofs.Common.{rules}
use Rattle.std.proofs.lemmas.Fn.{always_returns_same}
use Rattle.acfg_base.proofs.Rows.{searched}
use Rattle.acfg_model.specs.State.{name_cmp}
use Rattle.acfg_model.proofs.Kept.{name_total}
use Rattle.acfg_model.proofs.names.place_of.Goals as goal

pub returns : goal.returns
returns g c =
    let facts = c.binary_search_by.ensures in
    let by_key = facts.position (λ row. name_cmp (g.Y.ContainerRow.name_key row) c.args.name.now) (always_returns_same _ _ _ (λ a r f' called. search rules)) in
    searched name_total g.Y.ContainerRow.name_key _ c.requires _ c.binary_search_by.result facts.bound by_key
