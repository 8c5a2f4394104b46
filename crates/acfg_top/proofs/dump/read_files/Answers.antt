use Rattle.std.proofs.Common.{◌≡◌, ◌∙◌, sym, ap, subst, map, string_bytes, ℕ, List}
use Rattle.std.specs.Prelude.{IfOk, Result, Ok}
use Rattle.acfg_top.specs.Bodies.{IsAnswer, found_of, inputs_of}
use Rattle.acfg_top.specs.Dump.{CachesGive}
use Rattle.acfg_top.specs.Inputs.{Given, WithInputs, inputs_in}
use Rattle.acfg_top.specs.declared.inputs.Input.{Input}
use Rattle.acfg_top.proofs.dump.read_files.Goals as goal

pub returns-in-All-clause-told : goal.returns-in-All-clause-told
returns-in-All-clause-told g c = λ tells.
    let names = map string_bytes c.args.files.now in
    let found : Ok (inputs_of c.deref.result.now) ≡ inputs_in (g.P.Panel.files c.args.panel.now) names =
    ap (λ (items : List Input). Ok (inputs_of items)) c.deref.ensures.value ∙ sym (ap found_of c.in-All.is) ∙ c.in_ok-inputs.ensures.found tells in
    subst (λ (found : Result (List Given) (List ℕ)). IfOk c.dumped.result (IsAnswer (WithInputs found (CachesGive c.args.template.now c.args.filter.now names)))) found
    c.dumped.ensures.told
