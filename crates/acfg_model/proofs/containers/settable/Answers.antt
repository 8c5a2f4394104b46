use Rattle.std.proofs.Common.{ap, ◌∙◌, ⊎_elim, Some}
use Rattle.acfg_model.specs.Step.{set_refusal}
use Rattle.acfg_model.proofs.Rowed.{release_at, release_absent}
use Rattle.acfg_model.proofs.containers.settable.Goals as goal

pub returns-in-ReadWrite : goal.returns-in-ReadWrite
returns-in-ReadWrite c =
    let row = c.index-rows-at.result in
    let has = release_at c.args.rows.now c.requires (c.args.package.now, c.args.flag.now) c.in-Ok.at c.in-Ok.ensures row c.index-rows-at.is in
    (c.in-Ok.ensures, ap set_refusal has ∙ ap (λ k. set_refusal (Some (k, row.entry.value))) c.in-ReadWrite.is)

pub returns-in-ReadOnly : goal.returns-in-ReadOnly
returns-in-ReadOnly c =
    let row = c.index-rows-at.result in
    let has = release_at c.args.rows.now c.requires (c.args.package.now, c.args.flag.now) c.in-Ok.at c.in-Ok.ensures row c.index-rows-at.is in
    ap set_refusal has ∙ ⊎_elim (ap (λ k. set_refusal (Some (k, row.entry.value)))) (ap (λ k. set_refusal (Some (k, row.entry.value)))) c.in-ReadOnly.is

pub returns-in-Err : goal.returns-in-Err
returns-in-Err c = ap set_refusal (release_absent c.args.rows.now (c.args.package.now, c.args.flag.now) _ c.in-Err.ensures)
