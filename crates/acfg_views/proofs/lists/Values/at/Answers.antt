use Rattle.std.proofs.Common.{◌<◌, sym, subst, arith}
use Rattle.acfg_views.specs.Reading.{OpenList}
use Rattle.acfg_views.proofs.FileFacts.{opened_list-offsets}
use Rattle.acfg_views.proofs.lists.Values.at.Goals as goal

pub bounds-self-inside-self-inside : goal.bounds-self-inside-self-inside
bounds-self-inside-self-inside c =
    let o = opened_list-offsets _ _ _ c.self.invariant.opened in
    let below = subst (λ (list : OpenList). c.args.i < list.count) (sym c.self.view_is) c.requires in
    omega (arith, o.ends, below)
