use Rattle.std.proofs.Common.{◌≡◌, ◌∙◌, sym, ap, subst, codes, ℕ, List}
use Rattle.std.specs.Borrow.{Bor}
use Rattle.std.specs.List.{flat_map}
use Rattle.std.specs.Prelude.{IfOk, None, Some, option_map}
use Rattle.acfg_device.specs.Panel.{Files}
use Rattle.acfg_top.specs.Bodies.{IsProduct, missing_of}
use Rattle.acfg_top.specs.CreateAll.{EachGives}
use Rattle.acfg_top.specs.Inputs.{inputs_in}
use Rattle.acfg_top.specs.JobBodies.{jobs_of}
use Rattle.acfg_top.specs.Outcome.{Refused}
use Rattle.acfg_top.proofs.JobStores.{none_missing, one_missing}
use Rattle.acfg_top.proofs.create_all.worked.Goals as goal

pub returns-in-None-clause-told : goal.returns-in-None-clause-told
returns-in-None-clause-told g c = λ tells.
    let files = g.P.Panel.files c.args.panel.now in
    let jobs = jobs_of c.args.jobs.now in
    let found = inputs_in files (flat_map (λ job. job.caches) jobs) in
    let none : missing_of found ≡ None = sym (c.in_ok-missing_cache.ensures.found tells) ∙ ap (option_map (λ (name : Bor (List ℕ)). name.now)) c.in-None.is in
    none_missing found (EachGives files jobs) c.stored.result none
    (subst (λ (all : Files). IfOk c.stored.result (IsProduct (EachGives all jobs))) c.in_ok-missing_cache.ensures.reads.files (c.stored.ensures.told tells))

pub returns-in_ok-refused-in-Some-clause-told : goal.returns-in_ok-refused-in-Some-clause-told
returns-in_ok-refused-in-Some-clause-told g c = λ tells.
    let files = g.P.Panel.files c.args.panel.now in
    let jobs = jobs_of c.args.jobs.now in
    let found = inputs_in files (flat_map (λ job. job.caches) jobs) in
    let name = c.in-Some.name.now in
    let missing : missing_of found ≡ Some name = sym (c.in_ok-missing_cache.ensures.found tells) ∙ ap (option_map (λ (name : Bor (List ℕ)). name.now)) c.in-Some.is in
    (Refused name (codes "missing"), one_missing found (EachGives files jobs) name missing, c.only_told.ensures.of (Refused name (codes "missing")) c.in_ok-refused-in-Some.ensures)
