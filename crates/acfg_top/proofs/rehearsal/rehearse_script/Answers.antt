use Rattle.std.proofs.Common.{◌≡◌, sym, ap, ◌∙◌, refl, subst, ℕ, Global}
use Rattle.std.specs.Prelude.{codes, None, Some, Vec}
use Rattle.std.specs.Option.{option_map}
use Rattle.acfg_device.specs.Only.{OnlyReads}
use Rattle.acfg_device.specs.Panel.{Files}
use Rattle.acfg_top.specs.Outcome.{Refused}
use Rattle.acfg_top.specs.Rehearsal.{RehearseGives}
use Rattle.std.proofs.lemmas.Result.{on_err_weaker}
use Rattle.acfg_top.proofs.Putting.{comes_earlier}
use Rattle.acfg_top.proofs.Telling.{broken_earlier, tell_comes}
use Rattle.acfg_top.proofs.rehearsal.rehearse_script.Goals as goal

pub returns-in-Some-clause-broken : goal.returns-in-Some-clause-broken
returns-in-Some-clause-broken g c = λ tells.
    let read = c.in_ok-bytes.ensures in
    let script = c.args.script.now in
    let found : g.P.Panel.files c.args.panel.now script ≡ Some c.deref.result.now =
    sym (read.found tells) ∙ ap (option_map (λ (bytes : Vec ℕ Global). bytes.items)) c.in-Some.is ∙ ap Some (sym c.deref.ensures.value) in
    on_err_weaker c.transcribe.result (λ broken outcome given.
    broken_earlier g.P.Panel read.files read.said read.account outcome
    (broken outcome (subst (λ (files : Files). RehearseGives script files (Some c.deref.result.now) outcome) (sym read.files)
    (subst (λ file. RehearseGives script (g.P.Panel.files c.args.panel.now) file outcome) found given)))) (c.transcribe.ensures.broken tells)

pub returns-in_ok-told-in-None-clause-told : goal.returns-in_ok-told-in-None-clause-told
returns-in_ok-told-in-None-clause-told g c = λ tells.
    let read = c.in_ok-bytes.ensures in
    let script = c.args.script.now in
    let files = g.P.Panel.files c.args.panel.now in
    let absent : files script ≡ None = sym (read.found tells) ∙ ap (option_map (λ (bytes : Vec ℕ Global). bytes.items)) c.in-None.is in
    tell_comes g.P.Panel read.files read.said read.account (RehearseGives script files (files script)) (Refused script (codes "missing"))
    (subst (λ file. RehearseGives script files file (Refused script (codes "missing"))) (sym absent) refl)
    c.in_ok-told-in-None.told c.in_ok-told-in-None.ensures c.tell.result c.tell.ensures.says c.tell.ensures.ending (c.tell.ensures.ok tells)

pub returns-in-Some-clause-told : goal.returns-in-Some-clause-told
returns-in-Some-clause-told g c = λ tells.
    let read = c.in_ok-bytes.ensures in
    let script = c.args.script.now in
    let files = g.P.Panel.files c.args.panel.now in
    let reads : OnlyReads g.P.Panel c.args.panel.now c.read.new.self ⊥ = record { files = read.files; said = read.said; account = read.account; count = read.count; failed = λ none. absurd none } in
    let found : files script ≡ Some c.deref.result.now =
    sym (read.found tells) ∙ ap (option_map (λ (bytes : Vec ℕ Global). bytes.items)) c.in-Some.is ∙ ap Some (sym c.deref.ensures.value) in
    comes_earlier g.P.Panel reads (RehearseGives script (g.P.Panel.files c.read.new.self) (Some c.deref.result.now)) (RehearseGives script files (files script))
    (λ outcome given. subst (λ file. RehearseGives script files file outcome) (sym found) (subst (λ (f : Files). RehearseGives script f (Some c.deref.result.now) outcome) read.files given))
    c.transcribe.new.panel c.transcribe.result (c.transcribe.ensures.told tells)
