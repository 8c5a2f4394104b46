use Rattle.std.proofs.Common.{rules}
use Rattle.std.proofs.lemmas.Fn.{always_returns_same}
use Rattle.acfg_base.specs.Release.{key_cmp}
use Rattle.acfg_base.proofs.Rows.{searched}
use Rattle.acfg_base.proofs.Keys.{key_total}
use Rattle.acfg_base.proofs.ordered.place.Goals as goal

pub returns : goal.returns
returns g c =
    let facts = c.binary_search_by.ensures in
    let by_key = facts.position (λ row. key_cmp (g.Y.FlagRow.flag_key row) (c.args.package.now, c.args.flag.now)) (always_returns_same _ _ _ (λ a r f' called. search rules)) in
    searched key_total g.Y.FlagRow.flag_key _ c.requires _ c.binary_search_by.result facts.bound by_key
