use Rattle.std.proofs.Common.{◌≡◌, ◌∙◌, sym, ap, subst, refl, map, string_bytes, codes, ℕ, List}
use Rattle.std.specs.Prelude.{IfOk, Result, Ok, Err}
use Rattle.acfg_top.specs.Bodies.{IsProduct, found_of, inputs_of}
use Rattle.acfg_top.specs.CreateStorage.{StoredGives}
use Rattle.acfg_top.specs.Inputs.{Given, WithInputs, inputs_in}
use Rattle.acfg_top.specs.Outcome.{Refused}
use Rattle.acfg_top.specs.declared.inputs.Input.{Input}
use Rattle.acfg_top.proofs.create_storage.store_caches.Goals as goal

pub returns-in-All-clause-told : goal.returns-in-All-clause-told
returns-in-All-clause-told g c = λ tells.
    let found : Ok (inputs_of c.deref.result.now) ≡ inputs_in (g.P.Panel.files c.args.panel.now) (map string_bytes c.args.caches.now) =
    ap (λ (items : List Input). Ok (inputs_of items)) c.deref.ensures.value ∙ sym (ap found_of c.in-All.is) ∙ c.in_ok-inputs.ensures.found tells in
    subst (λ (found : Result (List Given) (List ℕ)). IfOk c.judged.result (IsProduct (WithInputs found (StoredGives c.args.container.now c.args.dir.now)))) found
    c.judged.ensures.told

pub returns-in_ok-refused-in-Missing-clause-told : goal.returns-in_ok-refused-in-Missing-clause-told
returns-in_ok-refused-in-Missing-clause-told g c = λ tells.
    let name = c.in-Missing.name.now in
    let found : Err name ≡ inputs_in (g.P.Panel.files c.args.panel.now) (map string_bytes c.args.caches.now) = sym (ap found_of c.in-Missing.is) ∙ c.in_ok-inputs.ensures.found tells in
    subst (λ (found : Result (List Given) (List ℕ)). IsProduct (WithInputs found (StoredGives c.args.container.now c.args.dir.now)) c.only_told.result) found
    (Refused name (codes "missing"), refl, c.only_told.ensures.of (Refused name (codes "missing")) c.in_ok-refused-in-Missing.ensures)
