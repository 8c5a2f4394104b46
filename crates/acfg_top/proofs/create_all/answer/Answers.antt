use Rattle.std.proofs.Common.{◌≡◌, ◌∙◌, sym, ap, subst, refl, codes, ℕ, Global}
use Rattle.std.specs.Prelude.{IfOk, None, Some, Vec}
use Rattle.std.specs.Option.{option_map}
use Rattle.acfg_device.specs.Panel.{Files}
use Rattle.acfg_top.specs.Bodies.{IsProduct}
use Rattle.acfg_top.specs.CreateAll.{ListGives}
use Rattle.acfg_top.specs.Outcome.{Refused}
use Rattle.acfg_top.proofs.create_all.answer.Goals as goal

pub returns-in-Some-clause-told : goal.returns-in-Some-clause-told
returns-in-Some-clause-told g c = λ tells.
    let read = c.in_ok-bytes.ensures in
    let list = c.args.list.now in
    let files = g.P.Panel.files c.args.panel.now in
    let found : files list ≡ Some c.deref.result.now =
    sym (read.found tells) ∙ ap (option_map (λ (bytes : Vec ℕ Global). bytes.items)) c.in-Some.is ∙ ap Some (sym c.deref.ensures.value) in
    subst (λ file. IfOk c.judged.result (IsProduct (ListGives list files file))) (sym found)
    (subst (λ (all : Files). IfOk c.judged.result (IsProduct (ListGives list all (Some c.deref.result.now)))) read.files (c.judged.ensures.told tells))

pub returns-in_ok-refused-in-None-clause-told : goal.returns-in_ok-refused-in-None-clause-told
returns-in_ok-refused-in-None-clause-told g c = λ tells.
    let read = c.in_ok-bytes.ensures in
    let list = c.args.list.now in
    let files = g.P.Panel.files c.args.panel.now in
    let absent : files list ≡ None = sym (read.found tells) ∙ ap (option_map (λ (bytes : Vec ℕ Global). bytes.items)) c.in-None.is in
    subst (λ file. IsProduct (ListGives list files file) c.only_told.result) (sym absent)
    (Refused list (codes "missing"), refl, c.only_told.ensures.of (Refused list (codes "missing")) c.in_ok-refused-in-None.ensures)
