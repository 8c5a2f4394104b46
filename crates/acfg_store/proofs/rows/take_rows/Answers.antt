use Rattle.std.proofs.Common.{◌≡◌, ◌≤◌, ◌∙◌, ℕ, List, [], ◌∷◌, ◌++◌, length, sym, eqb, true, false, arith, ap, refl}
use Rattle.std.specs.List.{flat_map}
use Rattle.std.proofs.lemmas.Bool.Decides.{nat_tests}
use Rattle.std.proofs.lemmas.List.{length-append, append-nil}
use Rattle.std.proofs.lemmas.List.Elements.{All-push}
use Rattle.acfg_store.proofs.Listed.{no_more, not_all, rows_more}
use Rattle.acfg_store.proofs.rows.take_rows.Goals as goal

nothing : (rest : List ℕ) → eqb (length rest) 0 ≡ true → rest ≡ []
nothing [] e = refl
nothing (x ∷ rest) e = absurd (grind (arith, nat_tests))

something : (rest : List ℕ) → eqb (length rest) 0 ≡ false → 1 ≤ length rest
something rest e = grind (arith, nat_tests)

pub returns-in-None : goal.returns-in-None
returns-in-None g c =
    let inv = c.loop.invariant in
    no_more g.Y.Spelled.spelled g.Y.Spelled.IsLawful c.laws.ensures.unique c.args.bytes.now c.loop.rest.now c.loop.rows.items c.args.count
    inv.are inv.each (omega (arith, inv.many)) (rw c.in-None.is at c.in_ok-take.ensures)

pub loop-preserved : goal.loop-preserved
loop-preserved g c =
    let inv = c.loop.invariant in
    let took = rw c.in-Some.is at c.in_ok-take.ensures in
    let items = c.in_ok-push-in-Some.ensures.items in
    rw items record {
      many = omega (arith, inv.many, length-append c.loop.rows.items (c.in-Some.row ∷ []));
      each = All-push g.Y.Spelled.IsLawful c.loop.rows.items c.in-Some.row inv.each took.0;
      are = rows_more g.Y.Spelled.spelled g.Y.Spelled.IsLawful c.laws.ensures.unique c.args.bytes.now c.loop.rest.now c.in-Some.behind.now c.loop.rows.items c.in-Some.row inv.are took.1;
    }

pub returns-then-is_empty : goal.returns-then-is_empty
returns-then-is_empty g c =
    let inv = c.loop.invariant in
    let none = nothing c.loop.rest.now (sym c.is_empty.ensures ∙ c.if-is_empty.true) in
    record {
      many = omega (arith, inv.many);
      each = inv.each;
      are = inv.are ∙ ap (λ (t : List ℕ). flat_map g.Y.Spelled.spelled c.loop.rows.items ++ t) none ∙ append-nil (flat_map g.Y.Spelled.spelled c.loop.rows.items);
    }

pub returns-else-is_empty : goal.returns-else-is_empty
returns-else-is_empty g c =
    let inv = c.loop.invariant in
    not_all g.Y.Spelled.spelled g.Y.Spelled.IsLawful c.laws.ensures.unique c.args.bytes.now c.loop.rest.now c.loop.rows.items c.args.count
    inv.are inv.each (omega (arith, inv.many)) (something c.loop.rest.now (sym c.is_empty.ensures ∙ c.if-is_empty.false))
