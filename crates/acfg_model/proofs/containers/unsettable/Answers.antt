use Rattle.std.proofs.Common.{ap, ap₂, ◌∙◌}
use Rattle.std.specs.FinMap.{get}
use Rattle.acfg_model.specs.Step.{unset_refusal}
use Rattle.acfg_model.specs.FlagStates.{local_in}
use Rattle.acfg_model.proofs.Rowed.{release_at, local_at, release_absent}
use Rattle.acfg_model.proofs.containers.unsettable.Goals as goal

pub returns-in-Some : goal.returns-in-Some
returns-in-Some c =
    let row = c.index-rows-at.result in
    let has = release_at c.args.rows.now c.requires (c.args.package.now, c.args.flag.now) c.in-Ok.at c.in-Ok.ensures row c.index-rows-at.is in
    let local = local_at c.args.rows.now c.requires (c.args.package.now, c.args.flag.now) c.in-Ok.at c.in-Ok.ensures row c.index-rows-at.is in
    (c.in-Ok.ensures, ap₂ unset_refusal has (local ∙ c.in-Some.is))

pub returns-in-None : goal.returns-in-None
returns-in-None c =
    let row = c.index-rows-at.result in
    let has = release_at c.args.rows.now c.requires (c.args.package.now, c.args.flag.now) c.in-Ok.at c.in-Ok.ensures row c.index-rows-at.is in
    let local = local_at c.args.rows.now c.requires (c.args.package.now, c.args.flag.now) c.in-Ok.at c.in-Ok.ensures row c.index-rows-at.is in
    ap₂ unset_refusal has (local ∙ c.in-None.is)

pub returns-in-Err : goal.returns-in-Err
returns-in-Err c = ap (λ facts. unset_refusal facts (get (local_in c.args.rows.now) (c.args.package.now, c.args.flag.now))) (release_absent c.args.rows.now (c.args.package.now, c.args.flag.now) _ c.in-Err.ensures)
