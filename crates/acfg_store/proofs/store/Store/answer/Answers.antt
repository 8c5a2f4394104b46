use Rattle.std.proofs.Common.{◌≡◌, ℕ, List, refl, sym, subst, ◌∙◌, arith}
use Rattle.std.specs.Prelude.{Ok}
use Rattle.acfg_base.specs.Release.{Key}
use Rattle.acfg_model.specs.declared.requests.Reply.{Reply}
use Rattle.acfg_model.specs.declared.requests.Request.{Request}
use Rattle.acfg_model.specs.declared.requests.Request.TheVariants.{Get}
use Rattle.acfg_model.specs.Step.{get_reply}
use Rattle.acfg_store.specs.Answered.{MeetsRequest}
use Rattle.acfg_store.specs.Applied.{IsOfCall, state_in}
use Rattle.acfg_store.proofs.Requested.{gives_up, no_device, replies}
use Rattle.acfg_store.proofs.store.Store.answer.Goals as goal

pub returns-in-Ok : goal.returns-in-Ok
returns-in-Ok g c =
    let reply = c.in-Ok.reply in
    let of : List ℕ → Key → Reply = get_reply (state_in c.args.self) in
    let is : reply ≡ of c.in-Get.container (c.in-Get.package, c.in-Get.flag) =
    c.in-Ok.ensures ∙ (λ i. of (c.as_str.ensures.text i) (c.as_str-in-Get.ensures.text i, c.as_str-in-Get-2.ensures.text i)) in
    subst (λ (request : Request). MeetsRequest g.D.Panel c.args.self request c.args.device.now c.args.device.now (Ok (c.args.self, reply))) (sym c.in-Get.is)
    (replies g.D.Panel c.args.self (Get c.in-Get.container c.in-Get.package c.in-Get.flag) c.args.device.now reply refl (record { dir = refl; is = λ i. (state_in c.args.self, sym is i) })
    (g.met.D.Panel.files_told c.args.device.now) (g.met.D.Panel.said_told c.args.device.now) c.requires)

pub returns-in-Err : goal.returns-in-Err
returns-in-Err g c =
    gives_up g.D.Panel c.args.self c.args.request.now c.args.device.now c.args.device.now c.from.result (subst IsOfCall (sym c.from.ensures) tt)
    (record { files = refl; said = refl; account = refl; count = omega arith; failed = λ fails. absurd (no_device c.from.result c.from.ensures fails) })
    (g.met.D.Panel.files_told c.args.device.now) (g.met.D.Panel.said_told c.args.device.now) c.requires
