use Rattle.std.proofs.Common.{ℕ, All, subst}
use Rattle.std.proofs.lemmas.List.{take_all}
use Rattle.std.proofs.lemmas.List.Elements.{All-more}
use Rattle.acfg_views.specs.Reading.{byte_in}
use Rattle.acfg_store.specs.declared.placed.Placed.{Placed}
use Rattle.acfg_store.specs.Placed.{IsInfoAt, IsInfoOf}
use Rattle.acfg_store.proofs.overrides.are_infos.Goals as goal

pub loop-flag-preserved : goal.loop-flag-preserved
loop-flag-preserved c =
    let x = c.flag-item.result in
    let at : IsInfoOf x.found.kind x.found.value c.at.result c.at-in-loop-flag.result = c.if-not-is_info.ensures in
    let told : IsInfoOf x.found.kind x.found.value (byte_in c.args.infos.now x.found.index) (byte_in c.args.values.now x.found.index) =
    subst (λ (v : ℕ). IsInfoOf x.found.kind x.found.value (byte_in c.args.infos.now x.found.index) v) c.at-in-loop-flag.ensures
    (subst (λ (b : ℕ). IsInfoOf x.found.kind x.found.value b c.at-in-loop-flag.result) c.at.ensures at) in
    All-more (λ (row : Placed). IsInfoAt c.args.values.now row (byte_in c.args.infos.now row.found.index)) c.args.flags.now c.loop-flag.flag-index x c.loop-flag-test.true c.loop-flag.invariant
    (subst (λ (row : Placed). IsInfoAt c.args.values.now row (byte_in c.args.infos.now row.found.index)) c.flag-item.is told)

pub returns : goal.returns
returns c =
    subst (All (λ (row : Placed). IsInfoAt c.args.values.now row (byte_in c.args.infos.now row.found.index))) (take_all c.loop-flag.flag-index c.args.flags.now c.loop-flag-test.false) c.loop-flag.invariant
