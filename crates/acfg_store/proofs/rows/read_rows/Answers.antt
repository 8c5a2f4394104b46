use Rattle.std.proofs.Common.{◌≡◌, List, subst, sym, ◌∙◌}
use Rattle.acfg_base.specs.Places.{AreInOrder}
use Rattle.acfg_store.proofs.Listed.{one_list, not_down}
use Rattle.acfg_store.proofs.rows.read_rows.Goals as goal

pub returns-else-are_in_order : goal.returns-else-are_in_order
returns-else-are_in_order g c = λ all (are, order).
    let found = rw c.in-Some.is at c.in_ok-take_rows.ensures in
    let same = one_list g.Y.Spelled.spelled g.Y.Spelled.IsLawful c.laws.ensures.unique c.args.count c.args.bytes.now c.in-Some.rows.items all found are in
    let here : c.deref.result.now ≡ all = c.deref.ensures.value ∙ same in
    not_down g.Y.Row.cmp g.Y.Row.key c.deref.result.now (subst (λ (rows : List _). AreInOrder g.Y.Row.cmp g.Y.Row.key rows) (sym here) order) c.if-are_in_order.ensures
